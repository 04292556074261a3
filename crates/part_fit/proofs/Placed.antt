-- The processors of first fit, task by task.
use Rattle.std.proofs.Common.{◌≡◌, ℕ, zero, suc, ◌+◌, ◌≤◌, Bool, inl, inr, List, [], ◌∷◌, ◌++◌, length, drop, Option, Some, None, slice_get, Ok, Err, refl, sym, ap, subst, ◌∙◌, arith, length-append}
use Rattle.std.specs.List.{AllByRecursion}
use Rattle.std.specs.Option.{option_map_or}
use Rattle.std.proofs.lemmas.List.{drop_all}
use Rattle.std.proofs.lemmas.Option.{slice_get_cases}
use Rattle.std.proofs.lemmas.Bool.{and_parts, leb-true}
use Rattle.std.proofs.lemmas.Bool.Decides.{eqb_tells}
use Rattle.mc_task.specs.declared.task.Task.{Task}
use Rattle.mc_task.specs.TaskSet.{AreTasks}
use Rattle.mc_model.proofs.Lists.{Each-append}
use Rattle.mc_model.proofs.Walk.{drop_at}
use Rattle.part_fit.specs.Parts.{part_of}
use Rattle.part_fit.specs.FirstFit.{fits, processor_for, placed, first_fit}
use Rattle.part_fit.specs.Partition.{IsAdmittedPart, IsPartition}
use Rattle.part_fit.proofs.Sublists.{part_of-none, part_of-more, with_next-AreTasks}
use Rattle.part_fit.proofs.Least.{find-passes}
use Rattle.part_fit.proofs.OnOne.{IsProcessor, each-on_one}

-- whether the task fits on processor n with the tasks that are there
abbrev pub takes : List Task → List ℕ → Task → ℕ → Bool
takes set of t n = fits (part_of set of n ++ t ∷ [])

-- one step of first fit: the next task has a processor, or has none
pub placed-next : (set : List Task) (m i : ℕ) (of : List ℕ) (t : Task) → slice_get set i ≡ Some t
    → placed set m (drop i set) of ≡ option_map_or (λ n. placed set m (drop (i + 1) set) (of ++ n ∷ [])) (processor_for set of t m) (Err (length of + 1))
unfolding placed
placed-next set m i of t task = ap (λ ts. placed set m ts of) (drop_at set i t task)

-- first fit ends when no task is left
pub placed-end : (set : List Task) (m i : ℕ) (of : List ℕ) → length set ≤ i → placed set m (drop i set) of ≡ Ok of
unfolding placed
placed-end set m i of past = ap (λ ts. placed set m ts of) (drop_all i set past)

-- what holds of the processors of the tasks so far
record IsPlaced (set : List Task) (m : ℕ) (of : List ℕ) : Type 0 where
  pub each : AllByRecursion (IsProcessor m) of
  pub admitted : (n : ℕ) → IsAdmittedPart (part_of set of n)

more-placed : (set : List Task) (m n : ℕ) (of : List ℕ) (t : Task) → AreTasks set → slice_get set (length of) ≡ Some t → processor_for set of t m ≡ Some n
    → IsPlaced set m of → IsPlaced set m (of ++ n ∷ [])
unfolding fits
more-placed set m n of t is task found so_far =
    let least = find-passes (takes set of t) m 1 n found in
    let fit = and_parts _ _ least.2 in
    record {
      each = Each-append (IsProcessor m) of (n ∷ []) so_far.each ((least.0, omega (arith, least.1)), tt);
      admitted = λ k.
          elim (eqb_tells n k) [
            | inl same ↦ rw (part_of-more set of k n t task, same.0, ← same.1) (inr (with_next-AreTasks set of n t is task, leb-true _ _ fit.0, fit.1))
            | inr other ↦ rw (part_of-more set of k n t task, other.0) (so_far.admitted k)
          ];
    }

decided : (set : List Task) (m : ℕ) (ts : List Task) (of all : List ℕ) (o : Option ℕ)
    → option_map_or (λ n. placed set m ts (of ++ n ∷ [])) o (Err (length of + 1)) ≡ Ok all → (n : ℕ) × (o ≡ Some n) × (placed set m ts (of ++ n ∷ []) ≡ Ok all)
decided set m ts of all None h = absurd (cc h)
decided set m ts of all (Some n) h = (n, refl, h)

-- what holds of the processors of all tasks, by induction on how many are left
whole : (set : List Task) (m left : ℕ) (of all : List ℕ) → AreTasks set → length of + left ≡ length set → IsPlaced set m of
    → placed set m (drop (length of) set) of ≡ Ok all → (length all ≡ length set) × IsPlaced set m all
whole set m zero of all is long so_far h =
    let same : of ≡ all = cc (h, placed-end set m (length of) of (omega arith)) in
    subst (λ x. (length x ≡ length set) × IsPlaced set m x) same (omega arith, so_far)
whole set m (suc left) of all is long so_far h =
    elim (slice_get_cases set (length of)).1 [
      | inl here ↦
          let task = here.2 in
          let next = decided set m (drop (length of + 1) set) of all (processor_for set of here.0 m) (sym (placed-next set m (length of) of here.0 task) ∙ h) in
          let longer : length (of ++ next.0 ∷ []) ≡ length of + 1 = length-append of (next.0 ∷ []) in
          whole set m left (of ++ next.0 ∷ []) all is (omega arith) (more-placed set m next.0 of here.0 is task next.1 so_far) (rw longer next.2)
      | inr past ↦ absurd (omega arith)
    ]

pub first_fit-IsPartition : (set : List Task) (m : ℕ) (of : List ℕ) → AreTasks set → first_fit set m ≡ Ok of → IsPartition set of m
first_fit-IsPartition set m of is h =
    let w = whole set m (length set) [] of is (omega arith) (record { each = tt; admitted = λ n. inl (part_of-none set n) }) h in
    record { long = w.0; once = each-on_one set of m w.0 w.1.each is.names; admitted = w.1.admitted }
