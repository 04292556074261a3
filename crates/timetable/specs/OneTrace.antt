-- The law that at most one trace follows.
use Rattle.std.specs.Prelude.{◌≡◌, ℕ, List}
use Rattle.mc_task.specs.declared.task.Rule.{Rule}
use Rattle.mc_task.specs.declared.task.Task.{Task}
use Rattle.mc_task.specs.TaskSet.{AreTasks}
use Rattle.mc_model.specs.declared.row.Row.{Row}
use Rattle.mc_model.specs.declared.work.WorkRow.{WorkRow}
use Rattle.mc_model.specs.Holds.{Fits}
use Rattle.mc_model.specs.Follows.{Follows}

-- law: at most one trace follows from a set, a rule that fits, a list of work and a number of ticks
abbrev pub AtMostOneFollows : Type 0
AtMostOneFollows = (set : List Task) (rule : Rule) (work : List WorkRow) (n : ℕ) (g h : List Row)
    → AreTasks set → Fits rule → Follows set rule work n g → Follows set rule work n h → g ≡ h
