use Rattle.std.proofs.Common.{◌≡◌, ◌++◌, drop, map, take}
use Rattle.sched_report.specs.TaskTally.{with_switch}
use Rattle.sched_report.proofs.tally.switch_all.Given as goal

abbrev pub invariant-loop-task : goal.invariant-loop-task
invariant-loop-task l = l.tasks ≡ map with_switch (take l.task-index l.initial.tasks) ++ drop l.task-index l.initial.tasks
