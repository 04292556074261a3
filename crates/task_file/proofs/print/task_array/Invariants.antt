use Rattle.std.proofs.Common.{◌≡◌, map, take}
use Rattle.toml.specs.View.{view}
use Rattle.task_file.specs.Printed.{task_tables}
use Rattle.task_file.proofs.print.task_array.Given as goal

abbrev pub invariant-loop-task : goal.invariant-loop-task
invariant-loop-task l = map view l.items.items ≡ task_tables (take l.task-index l.tasks)
