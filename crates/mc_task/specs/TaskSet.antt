-- Task sets: dual-criticality sporadic tasks with implicit deadlines (Baruah et al., ECRTS 2012).
-- This profile adds that a low task has one budget, and the limits on the number of tasks and on their
-- numbers.
use Rattle.std.specs.Prelude.{◌≡◌, ◌≢◌, ℕ, ◌-◌, ◌<◌, ◌≤◌, ◌^◌, ◌==◌, if◌then◌else◌, List, [], ◌∷◌, length, map, slice_get, Option, None, IfSome, IsTrue}
use Rattle.std.specs.List.{AllByRecursion}
use Rattle.std.specs.Option.{option_map_or}
use Rattle.tick_frac.specs.Numbers.{gcd}
use Rattle.mc_task.specs.NameForm.{is_name}
use Rattle.mc_task.specs.declared.task.Task.{Task}
use Rattle.mc_task.specs.declared.task.Scale.{Scale}
use Rattle.mc_task.specs.declared.task.Level.{Level}
use Rattle.mc_task.specs.declared.task.Level.TheVariants.{Low, High}

-- a period or a budget: 1 to 4,294,967,295 ticks
abbrev pub IsTickCount : ℕ → Type 0
IsTickCount n = (1 ≤ n) × (n < 2 ^ 32)

-- a high task's low budget is at most its high budget; a low task's two budgets are equal
abbrev pub InOrder : Level → ℕ → ℕ → Type 0
InOrder Low low high = low ≡ high
InOrder High low high = low ≤ high

-- a task with a name, a period, and budgets in order
pub record IsTask (t : Task) : Type 0 where
  pub name : IsTrue (is_name t.name)
  pub period : IsTickCount t.period
  pub low : IsTickCount t.low
  pub high : IsTickCount t.high
  pub budgets : InOrder t.level t.low t.high

-- no two names of the list are equal
abbrev pub Distinct : List (List ℕ) → Type 0
Distinct [] = Unit {0}
Distinct (n ∷ ns) = AllByRecursion (λ m. n ≢ m) ns × Distinct ns

-- the tasks' names, in order
abbrev pub names_of : List Task → List (List ℕ)
names_of tasks = map (λ t. t.name) tasks

-- the tasks of a set: 1 to 128 valid tasks with different names
pub record AreTasks (tasks : List Task) : Type 0 where
  pub some : 1 ≤ length tasks
  pub few : length tasks ≤ 128
  pub each : AllByRecursion IsTask tasks
  pub names : Distinct (names_of tasks)

-- a valid scale: p/q is at most 1 and in lowest terms, and p and q are from 1 to 4,294,967,295
pub record IsScale (x : Scale) : Type 0 where
  pub some : 1 ≤ x.p
  pub order : x.p ≤ x.q
  pub small : x.q < 2 ^ 32
  pub lowest : gcd x.p x.q ≡ 1

-- a set: tasks, and the scale that was chosen for them, if any
pub record Set : Type 0 where
  pub tasks : List Task
  pub scale : Option Scale

-- a valid set: 1 to 128 valid tasks with different names, and a valid scale or none
pub record IsSet (set : Set) : Type 0 where
  pub tasks : AreTasks set.tasks
  pub scale : IfSome set.scale IsScale

-- the set of these tasks with no scale of its own
abbrev pub unscaled : List Task → Set
unscaled tasks = record { tasks = tasks; scale = None }

-- task number k is in the set: tasks are numbered from 1 in the order of the list
abbrev pub IsIn : List Task → ℕ → Type 0
IsIn tasks k = (1 ≤ k) × (k ≤ length tasks)

-- task number k, if there is one
abbrev pub task_at : List Task → ℕ → Option Task
task_at tasks k = if k == 0 then None else slice_get tasks (k - 1)

-- the name of a task; empty where there is no task
abbrev pub name_in : Option Task → List ℕ
name_in task = option_map_or (λ t. t.name) task []
