-- What first fit guarantees: each task is on one processor, and each processor's tasks are admitted.
use Rattle.std.specs.Prelude.{◌≡◌, ◌⊎◌, ℕ, ◌≤◌, List, [], length, Contains, IsSome}
use Rattle.std.specs.List.{AllByRecursion}
use Rattle.mc_task.specs.declared.task.Task.{Task}
use Rattle.mc_task.specs.TaskSet.{AreTasks}
use Rattle.mc_model.specs.Loads.{IsWithinRange}
use Rattle.mc_model.specs.Test.{published}
use Rattle.part_fit.specs.Parts.{part_of}

-- the task is on exactly one processor from 1 to m
pub record IsOnOne (set : List Task) (of : List ℕ) (m : ℕ) (t : Task) : Type 0 where
  pub processor : ℕ
  pub first : 1 ≤ processor
  pub last : processor ≤ m
  pub there : Contains (part_of set of processor) t
  pub alone : (n : ℕ) → Contains (part_of set of n) t → n ≡ processor

-- there are no tasks, or they are a set within range to which the published test gives a rule
abbrev pub IsAdmittedPart : List Task → Type 0
IsAdmittedPart tasks = (tasks ≡ []) ⊎ (AreTasks tasks × IsWithinRange tasks × IsSome (published tasks))

-- each task is on one of the processors from 1 to m, and the tasks of each processor are admitted
pub record IsPartition (set : List Task) (of : List ℕ) (m : ℕ) : Type 0 where
  pub long : length of ≡ length set
  pub once : AllByRecursion (IsOnOne set of m) set
  pub admitted : (n : ℕ) → IsAdmittedPart (part_of set of n)
