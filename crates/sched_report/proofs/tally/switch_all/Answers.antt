use Rattle.std.proofs.Common.{arith}
use Rattle.std.proofs.lemmas.List.{get_or_default}
use Rattle.std.proofs.lemmas.List.Edits.{map_over_more}
use Rattle.sched_report.specs.TaskTally.{with_switch}
use Rattle.sched_report.proofs.tally.switch_all.Goals as goal

pub loop-task-preserved : goal.loop-task-preserved
loop-task-preserved c = rw c.with_switch.ensures (map_over_more with_switch c.args.tasks.now c.loop-task.tasks c.loop-task.task-index _ c.loop-task-test.true c.loop-task.invariant (get_or_default c.loop-task.tasks c.loop-task.task-index _ _ (omega (arith, c.loop-task-test.true, c.loop-task.auto.tasks))))
