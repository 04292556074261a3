use Rattle.std.proofs.Common.{◌≡◌, ◌++◌, drop}
use Rattle.part_commands.specs.Partition.{spaced_names}
use Rattle.part_commands.proofs.partition.add_names.Given as goal

abbrev pub invariant-loop-task : goal.invariant-loop-task
invariant-loop-task l = l.line.items ++ spaced_names (drop l.task-index l.tasks) ≡ l.fn.line.items ++ spaced_names l.tasks
