use Rattle.std.proofs.Common.{List, length, ap, arith}
use Rattle.trace_judge.specs.Entries.{Entry}
use Rattle.trace_judge.proofs.pending_queues.PendingQueues.count.Goals as goal

pub returns : goal.returns
returns c =
    let none = rw c.in_default.is at c.pop.ensures in
    let left = ap (λ (es : List Entry). length es) none in
    omega (arith, c.loop-count.invariant.0, c.loop-count.invariant.1, left)
