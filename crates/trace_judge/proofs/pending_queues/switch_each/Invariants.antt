use Rattle.std.proofs.Common.{◌≡◌, ◌++◌, take, drop}
use Rattle.trace_judge.specs.Queues.{switched_from, AreQueues}
use Rattle.trace_judge.proofs.pending_queues.switch_each.Given as goal

-- the first queues are switched, and the others as before
abbrev pub invariant-loop-index : goal.invariant-loop-index
invariant-loop-index l =
    (l.queues.items ≡ take l.index (switched_from l.set.tasks l.rule 1 l.fn.queues.items) ++ drop l.index l.fn.queues.items)
    × AreQueues l.queues.items l.heads
