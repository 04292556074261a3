use Rattle.std.proofs.Common.{◌≡◌, ◌-◌, length}
use Rattle.trace_judge.specs.Queues.{remaining_of, IsRemaining}
use Rattle.trace_judge.proofs.pending_queues.Remaining.pop.Given as goal

abbrev pub invariant-loop-self : goal.invariant-loop-self
invariant-loop-self l = (IsRemaining l.self-inside.queues.now l.self-inside.next l.self-inside.at)
    × (remaining_of l.self-inside.queues.now l.self-inside.next l.self-inside.at ≡ remaining_of l.initial.self-inside.queues.now l.initial.self-inside.next l.initial.self-inside.at)

abbrev pub decreases-loop-self : goal.decreases-loop-self
decreases-loop-self l = length l.self-inside.queues.now - l.self-inside.next
