use Rattle.task_threads.specs.LiveLeft.{Moves}
use Rattle.task_threads.proofs.live_left.release_each.Given as goal

abbrev pub invariant-loop-task : goal.invariant-loop-task
invariant-loop-task l = Moves l.fn.floor l.floor 0
