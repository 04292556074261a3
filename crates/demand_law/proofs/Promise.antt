-- The headline: a legal trace under a rule that holds keeps each deadline.
use Rattle.std.proofs.Common.{◌≡◌, ◌⊎◌, inl, inr, ℕ, ◌+◌, ◌<◌, ◌≤◌, ◌==◌, nat_le, Bool, true, false, not, ◌&&◌, ◌||◌, cond, List, [], ◌∷◌, ◌≢◌, refl, arith, le-leb, eqb-true}
use Rattle.std.specs.List.{AllByRecursion}
use Rattle.std.proofs.lemmas.Bool.Decides.{nat_tests}
use Rattle.std.proofs.Math.Bool.{beq}
use Rattle.std.proofs.lemmas.Bool.{eqb-false}
use Rattle.mc_task.specs.declared.task.Rule.{Rule}
use Rattle.mc_task.specs.declared.task.Task.{Task}
use Rattle.mc_task.specs.TaskSet.{task_at, IsTask}
use Rattle.mc_model.specs.declared.row.Row.{Row}
use Rattle.mc_model.specs.declared.row.Row.TheVariants.{Release, Tick, Idle}
use Rattle.mc_model.specs.Holds.{Holds}
use Rattle.mc_model.specs.TaskNumbers.{is_high_in}
use Rattle.mc_model.specs.Mode.{high_mode}
use Rattle.mc_model.specs.Pending.{KeptRelease, released, ended, over_since}
use Rattle.mc_model.specs.Rows.{ticks}
use Rattle.mc_model.specs.Legal.{Legal}
use Rattle.mc_model.specs.Late.{up_to, deadline, is_late}
use Rattle.mc_model.specs.Promise.{rows_at, OneAtATime, MeetsDeadline, DropsByOverrun, KeepsDeadlines}
use Rattle.mc_model.proofs.Lists.{Each-map}
use Rattle.mc_model.proofs.Bridge.{IsBridged, bridge}
use Rattle.mc_model.proofs.Steps.{release_fits}
use Rattle.demand_law.proofs.Laws.{each_in_time, none_late}
use Rattle.mc_model.proofs.Fold

-- a row after all rows before tick n does not add to the rows at n
not_yet : (n t r : ℕ) → t + 1 ≤ n → r ≡ 0 → cond (t == n) 1 0 + r ≡ 0
not_yet n t r k e = let other : (t == n) ≡ false = grind (arith, nat_tests) in rw other (omega arith)

-- no row stands at number n if the trace has at most n ticks
none_at : (n : ℕ) (h : List Row) → ticks h ≤ n → rows_at n h ≡ 0
none_at n [] k = refl
none_at n (Release j kept ∷ g) k = none_at n g k
none_at n (Tick j how ∷ g) k = not_yet n (ticks g) (rows_at n g) k (none_at n g (omega arith))
none_at n (Idle ∷ g) k = not_yet n (ticks g) (rows_at n g) k (none_at n g (omega arith))

-- a row adds one to the rows at number n exactly if it is the tick with that number
this_or : (n t r : ℕ) → n < t + 1 → (t ≤ n → r ≡ 0) → (n < t → r ≡ 1) → cond (t == n) 1 0 + r ≡ 1
this_or n t r k none one = go (t == n) refl
  where
    go : (b : Bool) → (t == n) ≡ b → cond b 1 0 + r ≡ 1
    go true e = let same : t ≡ n = eqb-true t n e in let z : r ≡ 0 = none (omega (arith, same)) in omega arith
    go false e = let other : t ≢ n = eqb-false t n e in let z : r ≡ 1 = one (omega (arith, other, k)) in omega arith

one_at : (h : List Row) → OneAtATime h
one_at [] n k = absurd (omega arith)
one_at (Release j kept ∷ g) n k = one_at g n k
one_at (Tick j how ∷ g) n k = this_or n (ticks g) (rows_at n g) k (none_at n g) (one_at g n)
one_at (Idle ∷ g) n k = this_or n (ticks g) (rows_at n g) k (none_at n g) (one_at g n)

-- a job that is not late after its deadline has ended, or is low and was discarded
not_late_is : (ended high over : Bool) → (true && (not ended && (high || not over))) ≡ false → (ended ≡ true) ⊎ ((high ≡ false) × (over ≡ true))
not_late_is true high over h = inl refl
not_late_is false true over h = cc
not_late_is false false true h = inr (refl, refl)
not_late_is false false false h = cc

meets : (set : List Task) (h : List Row) (x : KeptRelease) → is_late set h x ≡ false → MeetsDeadline set h x
meets set h x late due =
    let come : nat_le (deadline set x) (ticks h) ≡ true = le-leb _ _ due in
    not_late_is (ended (up_to (deadline set x) h) x.job) (is_high_in (task_at set x.job.task.0)) (over_since (up_to (deadline set x) h) x.job) (rw come at late)

-- only a release of a low task in high mode may be dropped
dropped : (high mode : Bool) → beq false (high || not mode) ≡ true → (high ≡ false) × (mode ≡ true)
dropped true mode h = cc
dropped false true h = (refl, refl)
dropped false false h = cc

drops : (set : List Task) (rule : Rule) (h : List Row) → Fold.Legal set rule h → DropsByOverrun set rule h
drops set rule [] l = tt
drops set rule (Release j true ∷ g) l = drops set rule g l.2
drops set rule (Release j false ∷ g) l =
    let d = dropped (is_high_in (task_at set j.task.0)) (high_mode rule g) (release_fits set rule j false g l.1).kept_so in
    (d.0, d.1, drops set rule g l.2)
drops set rule (Tick j how ∷ g) l = drops set rule g l.2
drops set rule (Idle ∷ g) l = drops set rule g l.2

-- the headline: each legal trace under a rule that holds keeps its deadlines
pub keeps_deadlines : (set : List Task) (rule : Rule) (h : List Row) → AllByRecursion IsTask set → Holds set rule → Legal set rule h → KeepsDeadlines set rule h
keeps_deadlines set rule h s holds l =
    let b : IsBridged set rule h = bridge set rule h l in
    record {
      one = one_at h;
      none_late = none_late set rule h s holds l;
      deadlines = Each-map {P = λ x. is_late set h x ≡ false} (λ x n. meets set h x n) (released h) (each_in_time set rule h s holds l);
      drops = drops set rule h b.legal;
    }
