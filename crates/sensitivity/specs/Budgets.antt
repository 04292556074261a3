-- The greatest budgets of a task with which the published test admits a set.
use Rattle.std.specs.Prelude.{◌≡◌, ℕ, zero, suc, ◌+◌, ◌-◌, ◌<◌, ◌≤◌, Bool, true, false, List, [], ◌∷◌, length, slice_get, Option, None, Some, IfSome, is_some}
use Rattle.mc_task.specs.declared.task.Task.{Task}
use Rattle.mc_task.specs.declared.task.Level.TheVariants as level
use Rattle.mc_task.specs.TaskSet.{AreTasks, task_at}
use Rattle.mc_model.specs.Loads.{by_level}
use Rattle.mc_model.specs.TaskNumbers.{is_high_in}
use Rattle.mc_model.specs.Test.{published, rule_of}
use Rattle.sensitivity.specs.declared.budget.Budget.{Budget}
use Rattle.sensitivity.specs.declared.budget.Budget.TheVariants.{Low, High}
use Rattle.sensitivity.specs.declared.budget.GreatestBudgets.{GreatestBudgets}

-- the task with another low budget, which for a low task is its high budget too, or with another high budget
abbrev pub with_budget : Budget → ℕ → Task → Task
with_budget Low b t = record t { low = b; high = by_level t.level b t.high }
with_budget High b t = record t { high = b }

-- the tasks with a change of the one at index i
unfoldable pub changed : (Task → Task) → ℕ → List Task → List Task
changed f i [] = []
changed f zero (t ∷ ts) = f t ∷ ts
changed f (suc i) (t ∷ ts) = t ∷ changed f i ts

-- the set with another budget of task number k
abbrev pub set_with : Budget → List Task → ℕ → ℕ → List Task
set_with which set k b = changed (with_budget which b) (k - 1) set

-- whether the published test admits the set with this budget of task number k
abbrev pub is_admitted_with : Budget → List Task → ℕ → ℕ → Bool
is_admitted_with which set k b = is_some (published (set_with which set k b))

-- whether the task has a budget of this kind of its own: each task has a low budget, and a high task a high one
abbrev pub Has : Budget → Task → Type 0
Has Low t = Unit {0}
Has High t = t.level ≡ level.High

-- the least budget that the task may have, while its other numbers stay
abbrev pub least_of : Budget → Task → ℕ
least_of Low t = 1
least_of High t = t.low

-- the greatest budget that the task may have, while its other numbers stay
abbrev pub most_of : Budget → Task → ℕ
most_of Low t = by_level t.level 4294967295 t.high
most_of High t = 4294967295

-- the greatest number from least to most that passes; none passes if there is none
abbrev pub IsGreatest : (ℕ → Bool) → ℕ → ℕ → Option ℕ → Type 0
IsGreatest passes least most None = (b : ℕ) → least ≤ b → b ≤ most → passes b ≡ false
IsGreatest passes least most (Some g) =
    (least ≤ g) × (g ≤ most) × (passes g ≡ true) × ((b : ℕ) → g < b → b ≤ most → passes b ≡ false)

-- the greatest budget of task number k with which the set is admitted, all else unchanged; none if it is admitted
-- with no budget that the task may have
abbrev pub IsGreatestBudget : Budget → List Task → ℕ → Option ℕ → Type 0
IsGreatestBudget which set k g =
    IfSome (task_at set k) (λ t. IsGreatest (is_admitted_with which set k) (least_of which t) (most_of which t) g)

-- these are the greatest budgets of task number k; a low task has no high one
pub record AreGreatestOf (set : List Task) (k : ℕ) (g : GreatestBudgets) : Type 0 where
  pub low : IsGreatestBudget Low set k g.low
  pub high : is_high_in (task_at set k) ≡ true → IsGreatestBudget High set k g.high
  pub none : is_high_in (task_at set k) ≡ false → g.high ≡ None

-- these are the greatest budgets of each task, in order
pub record AreGreatestBudgets (set : List Task) (budgets : List GreatestBudgets) : Type 0 where
  pub count : length budgets ≡ length set
  pub each : (i : ℕ) (g : GreatestBudgets) → slice_get budgets i ≡ Some g → AreGreatestOf set (i + 1) g

-- law: a set that is admitted with some budget of a task is admitted with each lower one
abbrev pub LessIsAdmitted : Type 0
LessIsAdmitted =
    (which : Budget) (set : List Task) (k : ℕ) (t : Task) (r s : ℕ) → task_at set k ≡ Some t → r ≤ s
    → is_admitted_with which set k s ≡ true → is_admitted_with which set k r ≡ true

-- law: a set is one with each other budget that the task may have
abbrev pub StaysASet : Type 0
StaysASet =
    (which : Budget) (set : List Task) (k : ℕ) (t : Task) (b : ℕ) → AreTasks set → task_at set k ≡ Some t
    → Has which t → least_of which t ≤ b → b ≤ most_of which t → AreTasks (set_with which set k b)

-- law: if the test admits U_LL = a/n, U_HL = b/n and U_HH = c/n, it admits each that is no greater
abbrev pub LessLoadIsAdmitted : Type 0
LessLoadIsAdmitted =
    (n a b c x y z : ℕ) → x ≤ a → y ≤ b → z ≤ c
    → is_some (rule_of n a b c) ≡ true → is_some (rule_of n x y z) ≡ true
