use Rattle.std.proofs.Common.{◌≡◌, ℕ, get_or, None}
use Rattle.mode_core.proofs.Changes.{cleared}
use Rattle.mode_core.proofs.pending_jobs.clear_low.Given as goal

abbrev pub invariant-loop-k : goal.invariant-loop-k
invariant-loop-k l = (i : ℕ) → get_or l.jobs i None ≡ cleared l.set.tasks l.initial.jobs l.k i
