-- When a list of rows is a trace of a set. The newest row stands first.
use Rattle.std.specs.Prelude.{List}
use Rattle.mc_task.specs.declared.task.Rule.{Rule}
use Rattle.mc_task.specs.declared.task.Task.{Task}
use Rattle.mc_model.specs.declared.row.Row.{Row}
use Rattle.mc_model.specs.Holds.{Fits}
use Rattle.mc_model.specs.Legal.{Legal}

-- the rows are legal for the set under some rule that fits
pub record IsTraceOf (set : List Task) (h : List Row) : Type 0 where
  pub rule : Rule
  pub fits : Fits rule
  pub legal : Legal set rule h
