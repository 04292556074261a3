-- A schedule log in contracts.
use Rattle.std.specs.Prelude.{ℕ, List}
use Rattle.mc_task.specs.declared.task.Task.{Task}
use Rattle.mc_task.specs.declared.task.Rule.{Rule}
use Rattle.mc_model.specs.declared.row.Row.{Row}

-- the set, the rule, the capacity in rows, and the rows, the newest first
pub record Written : Type 0 where
  pub set : List Task
  pub rule : Rule
  pub places : ℕ
  pub rows : List Row
