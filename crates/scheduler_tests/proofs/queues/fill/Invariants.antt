use Rattle.std.proofs.Common.{◌≡◌}
use Rattle.scheduler_tests.proofs.queues.fill.Given as goal

abbrev pub invariant-loop-task : goal.invariant-loop-task
invariant-loop-task l = l.queue.places ≡ l.places
