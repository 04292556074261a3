-- Each task is on one processor.
use Rattle.std.proofs.Common.{◌≡◌, ◌≢◌, ℕ, zero, suc, ◌≤◌, inl, inr, Bool, true, false, cond, ◌==◌, List, [], ◌∷◌, length, refl, sym, ap, arith, eq-eqb}
use Rattle.std.specs.Prelude.{Contains}
use Rattle.std.specs.List.{AllByRecursion}
use Rattle.std.proofs.lemmas.Bool.{cond_both}
use Rattle.std.proofs.lemmas.Bool.Decides.{eqb_tells}
use Rattle.std.proofs.lemmas.List.Elements.{Contains-append_right}
use Rattle.mc_task.specs.declared.task.Task.{Task}
use Rattle.mc_task.specs.TaskSet.{Distinct, names_of}
use Rattle.part_fit.specs.Parts.{part_of}
use Rattle.part_fit.specs.Partition.{IsOnOne}
use Rattle.part_fit.proofs.Sublists.{part_of-names}

-- the processor is one of those from 1 to m
abbrev pub IsProcessor : ℕ → ℕ → Type 0
IsProcessor m p = (1 ≤ p) × (p ≤ m)

-- a task with another name than all of these is none of them
not_one : (ts : List Task) (t : Task) → AllByRecursion (λ name. t.name ≢ name) (names_of ts) → Contains ts t → ⊥
not_one [] t new (k, less, is) = omega arith
not_one (u ∷ us) t new (zero, less, is) = new.0 (ap (λ x. x.name) (sym is))
not_one (u ∷ us) t new (suc k, less, is) = not_one us t new.1 (k, omega arith, is)

-- a task in the list that is not the first is among the rest
after : (b : Bool) (t : Task) (rest : List Task) (x : Task) → t.name ≢ x.name → Contains (cond b (t ∷ rest) rest) x → Contains rest x
after true t rest x new (zero, less, is) = absurd (new (ap (λ u. u.name) is))
after true t rest x new (suc k, less, is) = (k, omega arith, is)
after false t rest x new there = there

-- the tasks after the first are on the processors where they were
others-on : (t : Task) (ts : List Task) (p : ℕ) (ps : List ℕ) (m : ℕ) (xs : List Task) → AllByRecursion (λ name. t.name ≢ name) (names_of xs)
    → AllByRecursion (IsOnOne ts ps m) xs → AllByRecursion (IsOnOne (t ∷ ts) (p ∷ ps) m) xs
others-on t ts p ps m [] new h = tt
others-on t ts p ps m (x ∷ xs) new h =
    let on = h.0 in
    let rest : List Task = part_of ts ps on.processor in (
      record {
        processor = on.processor;
        first = on.first;
        last = on.last;
        there = cond_both (p == on.processor) (t ∷ rest) rest (λ us. Contains us x) (λ same. Contains-append_right (t ∷ []) rest x on.there) (λ other. on.there);
        alone = λ n there. on.alone n (after (p == n) t (part_of ts ps n) x new.0 there);
      },
      others-on t ts p ps m xs new.1 h.1,
    )

-- each task is on exactly one processor
pub each-on_one : (ts : List Task) (of : List ℕ) (m : ℕ) → length of ≡ length ts → AllByRecursion (IsProcessor m) of → Distinct (names_of ts)
    → AllByRecursion (IsOnOne ts of m) ts
each-on_one [] of m long each names = tt
each-on_one (t ∷ ts) [] m long each names = absurd (omega arith)
each-on_one (t ∷ ts) (p ∷ ps) m long each names = (
  record {
    processor = p;
    first = each.0.0;
    last = each.0.1;
    there = rw (eq-eqb p p refl) (0, omega arith, refl);
    alone = λ n there.
        elim (eqb_tells p n) [
          | inl same ↦ sym same.1
          | inr other ↦ absurd (not_one (part_of ts ps n) t (part_of-names (λ name. t.name ≢ name) ts ps n names.0) (rw other.0 at there))
        ];
  },
  others-on t ts p ps m ts names.0 (each-on_one ts ps m (omega arith) each.1 names.1),
)
