-- What is true of the chosen job.
use Rattle.std.specs.Prelude.{◌≡◌, ◌≤◌, Bool, List, [], Option, Some, None, All, Contains}
use Rattle.mc_task.specs.declared.task.Rule.{Rule}
use Rattle.mc_task.specs.declared.task.Task.{Task}
use Rattle.mc_task.specs.declared.task.JobId.{JobId}
use Rattle.mc_model.specs.declared.row.Row.{Row}
use Rattle.mc_model.specs.Mode.{high_mode}
use Rattle.mc_model.specs.Pending.{KeptRelease, pending}
use Rattle.mc_model.specs.Key.{key}

-- y may wait for x: its key is no less, and if the keys are equal, its task's number is no lower
pub record MayWait (set : List Task) (rule : Rule) (high : Bool) (x y : KeptRelease) : Type 0 where
  pub order : key set rule high x ≤ key set rule high y
  pub tie : key set rule high x ≡ key set rule high y → x.job.task.0 ≤ y.job.task.0

-- the job is pending, and each pending job may wait for it
pub record IsLeast (set : List Task) (rule : Rule) (h : List Row) (j : JobId) : Type 0 where
  pub kept : KeptRelease
  pub of_job : kept.job ≡ j
  pub waiting : Contains (pending set h) kept
  pub others : All (MayWait set rule (high_mode rule h) kept) (pending set h)

-- the chosen job is a least one, or there is none and no job is pending
abbrev pub IsChoice : List Task → Rule → List Row → Option JobId → Type 0
IsChoice set rule h None = pending set h ≡ []
IsChoice set rule h (Some j) = IsLeast set rule h j
