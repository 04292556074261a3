-- Tests that compute whether rows are legal and runs valid, for rows and runs that are written out.
use Rattle.std.proofs.Common.{◌≡◌, ◌≤◌, ℕ, Bool, true, false, ◌&&◌, ◌||◌, arith, List, [], ◌∷◌, Option, None, Some, nat_le, length, refl, leb-true}
use Rattle.std.proofs.lemmas.Bool.Decides.{nat_tests}
use Rattle.std.proofs.lemmas.List.Elements.{All-from_recursion}
use Rattle.std.specs.List.{AllByRecursion, list_all}
use Rattle.mc_task.specs.declared.task.Rule.{Rule}
use Rattle.mc_task.specs.declared.task.Task.{Task}
use Rattle.mc_task.specs.TaskSet.{IsIn}
use Rattle.mc_model.specs.declared.row.Row.{Row}
use Rattle.mc_model.specs.declared.row.Row.TheVariants.{Release, Tick, Idle}
use Rattle.mc_model.specs.declared.row.How.{How}
use Rattle.mc_model.specs.declared.row.How.TheVariants.{More, Done, Stop, Over}
use Rattle.mc_model.specs.declared.run.Run.{Run}
use Rattle.mc_model.specs.declared.run.Run.TheVariants as run
use Rattle.mc_model.specs.declared.verdict.Why.{Why}
use Rattle.mc_model.specs.Sums.{total}
use Rattle.mc_model.specs.Runs.{length_of, IsRun, AreRuns}
use Rattle.mc_model.specs.Holds.{Fits}
use Rattle.mc_model.specs.Legal.{Legal, IsOfSet, fault, same_how}
use Rattle.mc_model.specs.Traces.{IsTraceOf}
use Rattle.std.proofs.lemmas.Bool.{and_parts}

-- the row's task is in the set
abbrev pub is_of_set : List Task → Row → Bool
is_of_set set (Release j kept) = nat_le 1 j.task.0 && nat_le j.task.0 (length set)
is_of_set set (Tick j how) = nat_le 1 j.task.0 && nat_le j.task.0 (length set)
is_of_set set Idle = true

-- there is no fault
abbrev pub is_none : Option Why → Bool
is_none None = true
is_none (Some w) = false

-- each row is of the set and fits
abbrev pub is_legal : List Task → Rule → List Row → Bool
is_legal set rule [] = true
is_legal set rule (row ∷ g) = (is_of_set set row && is_none (fault set rule row g)) && is_legal set rule g

number_in : (set : List Task) (a b : Bool) (k : ℕ) → nat_le 1 k ≡ a → nat_le k (length set) ≡ b → (a && b) ≡ true → IsIn set k
number_in set a b k first last h =
    let p = and_parts a b h in
    (leb-true _ _ (rw first p.0), leb-true _ _ (rw last p.1))

of_set : (set : List Task) (row : Row) → is_of_set set row ≡ true → IsOfSet set row
of_set set (Release j kept) h = number_in set _ _ j.task.0 refl refl h
of_set set (Tick j how) h = number_in set _ _ j.task.0 refl refl h
of_set set Idle h = tt

no_fault : (o : Option Why) → is_none o ≡ true → o ≡ None
no_fault None h = refl
no_fault (Some w) h = cc

-- rows that pass the test are legal
pub decided : (set : List Task) (rule : Rule) (h : List Row) → is_legal set rule h ≡ true → Legal set rule h
decided set rule [] t = tt
decided set rule (row ∷ g) t =
    let p = and_parts (is_of_set set row && is_none (fault set rule row g)) (is_legal set rule g) t in
    let q = and_parts (is_of_set set row) (is_none (fault set rule row g)) p.0 in
    (of_set set row q.0, no_fault (fault set rule row g) q.1, decided set rule g p.1)

-- rows that pass the test are a trace of the set, if the rule fits
pub decided_trace : (set : List Task) (rule : Rule) (h : List Row) → Fits rule → is_legal set rule h ≡ true → IsTraceOf set h
decided_trace set rule h fits t = record { rule = rule; fits = fits; legal = decided set rule h t }

-- whether the run is valid
abbrev is_run : Run → Bool
is_run (run.Release j kept) = true
is_run (run.Ticks j how n) = nat_le 1 n && (nat_le n 1 || same_how how More)
is_run (run.Idles n) = nat_le 1 n

is_run_so : (r : Run) → is_run r ≡ true → IsRun r
is_run_so (run.Release j kept) h = tt
is_run_so (run.Ticks j how n) h = let p = and_parts (nat_le 1 n) (nat_le n 1 || same_how how More) h in (grind (arith, nat_tests, p.0), λ m. more (nat_le n 1) refl how p.1 m)
  where
    more : (b : Bool) → nat_le n 1 ≡ b → (how : How) → (b || same_how how More) ≡ true → 2 ≤ n → how ≡ More
    more true e how h m = absurd (grind (arith, nat_tests, e, m))
    more false e More h m = refl
    more false e Done h m = cc
    more false e Stop h m = cc
    more false e Over h m = cc
is_run_so (run.Idles n) h = grind (arith, nat_tests, h)

-- whether a list of runs that is written out is valid
abbrev pub are_runs : List Run → Bool
are_runs rs = list_all is_run rs && (nat_le (length rs) 2000000 && nat_le (total length_of rs) 100000000)

pub decided_runs : (rs : List Run) → are_runs rs ≡ true → AreRuns rs
decided_runs rs h =
    let p = and_parts (list_all is_run rs) (nat_le (length rs) 2000000 && nat_le (total length_of rs) 100000000) h in
    let q = and_parts (nat_le (length rs) 2000000) (nat_le (total length_of rs) 100000000) p.1 in
    record { each = All-from_recursion IsRun rs (each rs p.0); few = grind (arith, nat_tests, q.0); short = grind (arith, nat_tests, q.1) }
  where
    each : (rs : List Run) → list_all is_run rs ≡ true → AllByRecursion IsRun rs
    each [] h = tt
    each (r ∷ rs) h = let p = and_parts (is_run r) (list_all is_run rs) h in (is_run_so r p.0, each rs p.1)
