use Rattle.std.proofs.Common.{◌≡◌, length}
use Rattle.trace_judge.specs.Switch.{noted_each, is_due_among}
use Rattle.trace_judge.proofs.state.State.late_jobs_with_due.Given as goal

abbrev pub invariant-loop-rank : goal.invariant-loop-rank
invariant-loop-rank l =
    noted_each (is_due_among l.low_alone l.set.tasks l.self.ticks) l.late_jobs l.remaining ≡ noted_each (is_due_among l.low_alone l.set.tasks l.self.ticks) l.self.late_jobs l.self.waiting.entries

abbrev pub decreases-loop-rank : goal.decreases-loop-rank
decreases-loop-rank l = length l.remaining
