-- The numbers of a task that the set has.
use Rattle.std.proofs.Common.{◌≡◌, ℕ, zero, suc, ◌+◌, ◌-◌, ◌<◌, ◌≤◌, false, ◌==◌, List, [], ◌∷◌, Option, Some, slice_get, length, refl, sym, subst, arith}
use Rattle.std.proofs.lemmas.Bool.Decides.{nat_tests}
use Rattle.std.specs.List.{AllByRecursion}
use Rattle.mc_task.specs.declared.task.Task.{Task}
use Rattle.mc_task.specs.declared.task.Level.{Level}
use Rattle.mc_task.specs.declared.task.Level.TheVariants.{Low, High}
use Rattle.mc_task.specs.TaskSet.{IsTask, IsIn, InOrder, task_at}
use Rattle.mc_task.specs.Kinds.{is_high}
use Rattle.mc_model.specs.TaskNumbers.{period_in, low_in, own_in, is_high_in}

-- the period and the low budget are not 0; the low budget is at most the own one, and equal to it for a low
-- task
pub record IsKnown (t : Option Task) : Type 0 where
  pub period : 1 ≤ period_in t
  pub low : 1 ≤ low_in t
  pub order : low_in t ≤ own_in t
  pub one_budget : is_high_in t ≡ false → own_in t ≡ low_in t

-- task number k stands at index k - 1
pub task_at-in : (set : List Task) (k : ℕ) → 1 ≤ k → task_at set k ≡ slice_get set (k - 1)
task_at-in set k first =
    let above : (k == 0) ≡ false = grind (arith, nat_tests) in
    rw above refl

-- task number 1 + k stands at index k
pub task_at-next : (set : List Task) (k : ℕ) → task_at set (1 + k) ≡ slice_get set k
task_at-next set k =
    let i : (1 + k) - 1 ≡ k = omega arith in
    subst (λ n. task_at set (1 + k) ≡ slice_get set n) i (task_at-in set (1 + k) (omega arith))

-- a property of the task by its number is one of the task at its index
pub at_index : (set : List Task) (P : Option Task → Type 0) (k : ℕ) (t : Task) → slice_get set k ≡ Some t → P (task_at set (1 + k)) → P (Some t)
at_index set P k t e h = subst P e (subst P (task_at-next set k) h)

-- of budgets in order, the low one is at most the high one
low-le : (l : Level) (low high : ℕ) → InOrder l low high → low ≤ high
low-le Low low high h = omega (arith, h)
low-le High low high h = h

-- the budgets of a low task are equal
one_of_low : (l : Level) (low high : ℕ) → InOrder l low high → is_high l ≡ false → high ≡ low
one_of_low Low low high h m = sym h
one_of_low High low high h m = cc

-- a valid task has known numbers
pub known_task : (t : Task) → IsTask t → IsKnown (Some t)
known_task t is = record {
  period = is.period.0;
  low = is.low.0;
  order = low-le t.level t.low t.high is.budgets;
  one_budget = one_of_low t.level t.low t.high is.budgets;
}

known_slice : (ts : List Task) (i : ℕ) → AllByRecursion IsTask ts → i < length ts → IsKnown (slice_get ts i)
known_slice [] i h k = absurd (omega arith)
known_slice (t ∷ ts) zero h k = known_task t h.0
known_slice (t ∷ ts) (suc i) h k = known_slice ts i h.1 (omega arith)

-- task number k of a set has known numbers
pub known : (set : List Task) (k : ℕ) → AllByRecursion IsTask set → IsIn set k → IsKnown (task_at set k)
known set k h i = rw (task_at-in set k i.0) (known_slice set (k - 1) h (let first = i.0 in let last = i.1 in omega arith))
