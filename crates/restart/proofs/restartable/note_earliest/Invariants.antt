use Rattle.std.proofs.Common.{◌≡◌, ℕ, get_or}
use Rattle.restart.proofs.FirstAllowed.{noted}
use Rattle.restart.proofs.restartable.note_earliest.Given as goal

abbrev pub invariant-loop-index : goal.invariant-loop-index
invariant-loop-index g l = (i : ℕ) → get_or l.first_allowed i 0 ≡ noted l.core l.initial.first_allowed l.index i
