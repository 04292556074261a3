use Rattle.std.proofs.Common.{◌<◌, ◌≤◌, drop, length}
use Rattle.std.specs.List.{AllByRecursion}
use Rattle.trace_judge.specs.declared.queue.Queued.{Queued}
use Rattle.trace_judge.proofs.queue.position_for.Given as goal

abbrev pub invariant-loop-position : goal.invariant-loop-position
invariant-loop-position l = (l.position ≤ length l.jobs.items) × AllByRecursion (λ (q : Queued). l.key < q.key) (drop l.position l.jobs.items)

abbrev pub decreases-loop-position : goal.decreases-loop-position
decreases-loop-position l = l.position
