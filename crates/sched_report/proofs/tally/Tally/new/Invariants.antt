use Rattle.std.proofs.Common.{◌≡◌, ◌+◌, ◌++◌, [], drop}
use Rattle.sched_report.specs.TaskTally.{tally_of}
use Rattle.sched_report.specs.Tally.{numbered}
use Rattle.sched_report.proofs.tally.Tally.new.Given as goal

abbrev pub invariant-loop-task : goal.invariant-loop-task
invariant-loop-task l =
    l.tallies.items ++ numbered (tally_of l.tasks []) (l.task-index + 1) (drop l.task-index l.tasks) ≡ numbered (tally_of l.set.tasks []) 1 l.set.tasks
