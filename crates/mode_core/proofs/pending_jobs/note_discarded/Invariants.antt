use Rattle.std.proofs.Common.{◌≡◌, ℕ, get_or, None}
use Rattle.mode_core.proofs.Changes.{noted}
use Rattle.mode_core.proofs.pending_jobs.note_discarded.Given as goal

abbrev pub invariant-loop-k : goal.invariant-loop-k
invariant-loop-k l = (i : ℕ) → get_or l.numbers i None ≡ noted l.set.tasks l.jobs l.initial.numbers l.k i
