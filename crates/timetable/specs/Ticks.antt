-- The tick that a list of work gives.
use Rattle.std.specs.Prelude.{◌+◌, Bool, List, Option, Some, None, ◌==◌}
use Rattle.mc_task.specs.declared.task.Rule.{Rule}
use Rattle.mc_task.specs.declared.task.Task.{Task}
use Rattle.mc_task.specs.declared.task.JobId.{JobId}
use Rattle.mc_model.specs.declared.row.Row.{Row}
use Rattle.mc_model.specs.declared.row.Row.TheVariants.{Tick, Idle}
use Rattle.mc_model.specs.declared.work.WorkRow.{WorkRow}
use Rattle.mc_model.specs.Rows.{used}
use Rattle.mc_model.specs.Core.{outcome_of}
use Rattle.mc_model.specs.Follows.{need_of}

-- the job's next tick is the last that it needs
abbrev pub is_last : List WorkRow → List Row → JobId → Bool
is_last work g j = used g j + 1 == need_of work j.task.0 j.count

-- the row of a tick of the job, or of an idle tick if there is no job
abbrev pub tick_row : List Task → Rule → List WorkRow → List Row → Option JobId → Row
tick_row set rule work g None = Idle
tick_row set rule work g (Some j) = Tick j (outcome_of set rule g j (is_last work g j))
