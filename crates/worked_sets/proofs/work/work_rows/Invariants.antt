use Rattle.std.proofs.Common.{◌≡◌, map, take}
use Rattle.worked_sets.specs.Lines.{work_of}
use Rattle.worked_sets.proofs.work.work_rows.Given as goal

abbrev pub invariant-loop-task : goal.invariant-loop-task
invariant-loop-task l = l.rows.items ≡ map work_of (take l.task-index l.jobs)
