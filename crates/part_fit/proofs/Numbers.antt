-- The numbers that tasks have on a processor.
use Rattle.std.proofs.Common.{◌≡◌, ℕ, zero, suc, ◌+◌, ◌<◌, inl, inr, Bool, true, false, cond, ◌==◌, List, [], ◌∷◌, length, slice_get, get_or, take, ◌++◌, refl, ap, ◌∙◌, arith, Some, None}
use Rattle.std.proofs.lemmas.List.{get_or_past}
use Rattle.std.proofs.lemmas.List.FromFn.{map-range_with_len_more, length-map-range_with_len, get_or-map-range_with_len}
use Rattle.std.proofs.lemmas.List.Sums.{sum_by-cons}
use Rattle.std.proofs.lemmas.Bool.{false≢true, cases_Bool, cases_lt}
use Rattle.std.proofs.lemmas.Option.{slice_get_cases, slice_get_within, slice_get-get_or, slice_get_past}
use Rattle.mc_task.specs.declared.task.Task.{Task}
use Rattle.mc_task.specs.TaskSet.{IsIn, task_at}
use Rattle.mc_model.proofs.Tasks.{task_at-next}
use Rattle.part_fit.specs.Parts.{part_of}
use Rattle.part_fit.specs.PartWork.{is_on, number_on}
use Rattle.part_fit.specs.Numbering.{number_there, numbers_there, number_in}

-- how many tasks are on a processor, by the first task and those after it
number_on-first : (n p : ℕ) (ps : List ℕ) (k : ℕ) (b : Bool) → (p == n) ≡ b → number_on n (p ∷ ps) (suc k) ≡ cond b 1 0 + number_on n ps k
number_on-first n p ps k b is = sum_by-cons (λ q. cond (q == n) 1 0) p (take k ps) ∙ rw is refl

-- a task on the processor adds one to the number of tasks there
number_on-next : (n : ℕ) (of : List ℕ) (i : ℕ) → is_on n of (suc i) ≡ true → number_on n of (suc i) ≡ suc (number_on n of i)
number_on-next n [] i on = absurd (false≢true on)
number_on-next n (p ∷ ps) zero on = rw on refl
number_on-next n (p ∷ ps) (suc i) on = omega (arith, number_on-first n p ps (suc i) _ refl, number_on-first n p ps i _ refl, number_on-next n ps i on)

-- a task is found on its processor at the number that it has there
number_on-task : (n : ℕ) (set : List Task) (of : List ℕ) (i : ℕ) → is_on n of (suc i) ≡ true → slice_get (part_of set of n) (number_on n of i) ≡ slice_get set i
number_on-task n [] of i on = refl
number_on-task n (t ∷ ts) [] i on = absurd (false≢true on)
number_on-task n (t ∷ ts) (p ∷ ps) zero on = rw on refl
number_on-task n (t ∷ ts) (p ∷ ps) (suc i) on =
    elim (cases_Bool (p == n)) [
      | inl also ↦
          let more : number_on n (p ∷ ps) (suc i) ≡ suc (number_on n ps i) = omega (arith, number_on-first n p ps i true also) in
          rw (also, more) (number_on-task n ts ps i on)
      | inr other ↦
          let same : number_on n (p ∷ ps) (suc i) ≡ number_on n ps i = omega (arith, number_on-first n p ps i false other) in
          rw (other, same) (number_on-task n ts ps i on)
    ]

-- no two tasks on a processor have the same number there
number_on-alone : (n : ℕ) (of : List ℕ) (i j : ℕ) → is_on n of (suc i) ≡ true → is_on n of (suc j) ≡ true → number_on n of i ≡ number_on n of j → i ≡ j
number_on-alone n [] i j a b same = absurd (false≢true a)
number_on-alone n (p ∷ ps) zero zero a b same = refl
number_on-alone n (p ∷ ps) zero (suc j) a b same = absurd (omega (arith, number_on-first n p ps j true a))
number_on-alone n (p ∷ ps) (suc i) zero a b same = absurd (omega (arith, number_on-first n p ps i true b))
number_on-alone n (p ∷ ps) (suc i) (suc j) a b same =
    ap suc (number_on-alone n ps i j a b (omega (arith, number_on-first n p ps i _ refl, number_on-first n p ps j _ refl)))

-- a task on the processor has a number there
pub number-IsIn : (n : ℕ) (set : List Task) (of : List ℕ) (k : ℕ) → is_on n of k ≡ true → IsIn set k → IsIn (part_of set of n) (number_on n of k)
number-IsIn n set of zero on is = absurd (false≢true on)
number-IsIn n set of (suc i) on is =
    let next = number_on-next n of i on in
    elim (slice_get_cases set i).1 [
      | inl here ↦
          let inside = slice_get_within (part_of set of n) (number_on n of i) here.0 (number_on-task n set of i on ∙ here.2) in
          (omega (arith, next), omega (arith, next, inside))
      | inr past ↦ absurd (omega (arith, past.0, is.1))
    ]

-- a task has the same data at its number there
pub number-task : (n : ℕ) (set : List Task) (of : List ℕ) (k : ℕ) → is_on n of k ≡ true → task_at (part_of set of n) (number_on n of k) ≡ task_at set k
number-task n set of zero on = absurd (false≢true on)
number-task n set of (suc i) on =
    let next : number_on n of (suc i) ≡ 1 + number_on n of i = omega (arith, number_on-next n of i on) in
    let one : suc i ≡ 1 + i = omega arith in
    rw (next, one, task_at-next (part_of set of n) (number_on n of i), task_at-next set i) (number_on-task n set of i on)

-- two tasks with the same number on a processor are the same task
pub number-injective : (n : ℕ) (of : List ℕ) (j k : ℕ) → is_on n of j ≡ true → is_on n of k ≡ true → number_on n of j ≡ number_on n of k → j ≡ k
number-injective n of zero k a b same = absurd (false≢true a)
number-injective n of (suc i) zero a b same = absurd (false≢true b)
number-injective n of (suc i) (suc j) a b same = ap suc (number_on-alone n of i j a b (omega (arith, number_on-next n of i a, number_on-next n of j b)))

-- the table of numbers for i + 1 tasks is the table for i tasks with one more entry
pub numbers-next : (n : ℕ) (of : List ℕ) (i : ℕ) → i < length of
    → numbers_there n of (i + 1) ≡ numbers_there n of i ++ cond (get_or of i 0 == n) (Some (number_on n of i + 1)) None ∷ []
numbers-next n of i inside =
    let at = slice_get-get_or of i 0 inside in
    map-range_with_len_more (λ k. number_there n of (suc k)) 0 i i (omega arith) ∙ elim (cases_Bool (get_or of i 0 == n)) [
      | inl on ↦ (let next : number_on n of (suc i) ≡ number_on n of i + 1 = omega (arith, number_on-next n of i (rw at on)) in rw (at, on, next) refl)
      | inr off ↦ rw (at, off) refl
    ]

-- the table has the number of each task on the processor
pub number_in-numbers : (n : ℕ) (of : List ℕ) (k : ℕ) → number_in (numbers_there n of (length of)) k ≡ number_there n of k
number_in-numbers n of zero = refl
number_in-numbers n of (suc i) =
    let number = λ (k : ℕ). number_there n of (suc k) in
    elim (cases_lt i (length of)) [
      | inl inside ↦ get_or-map-range_with_len number 0 (length of) i i None inside (omega arith)
      | inr past ↦ rw (slice_get_past of i past) (get_or_past (numbers_there n of (length of)) i None (omega (arith, length-map-range_with_len number 0 (length of))))
    ]
