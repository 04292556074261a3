use Rattle.std.proofs.Common.{◌≡◌, ◌+◌, ◌-◌, ◌^◌, ◌≤◌, min, length}
use Rattle.trace_judge.proofs.pending_queues.PendingQueues.count.Given as goal

abbrev pub invariant-loop-count : goal.invariant-loop-count
invariant-loop-count l = (l.count ≤ 2 ^ 64 - 1) × (min (l.count + length l.remaining) (2 ^ 64 - 1) ≡ min (length l.self.entries) (2 ^ 64 - 1))

abbrev pub decreases-loop-count : goal.decreases-loop-count
decreases-loop-count l = length l.remaining
