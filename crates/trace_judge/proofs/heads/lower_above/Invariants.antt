use Rattle.std.proofs.Common.{◌≡◌, ◌+◌, ◌*◌, ◌<◌, ◌≤◌, ℕ, length, drop}
use Rattle.trace_judge.specs.Heads.{IsTreeBut, IsLowered}
use Rattle.trace_judge.proofs.heads.lower_above.Given as goal

abbrev pub invariant-loop-at : goal.invariant-loop-at
invariant-loop-at l =
    (length l.nodes ≡ length l.initial.nodes) × (2 * l.at + 1 < length l.nodes) × (IsTreeBut l.at l.nodes) × (IsLowered l.at l.key l.nodes)
    × ((p : ℕ) → length l.nodes ≤ 2 * p → drop p l.nodes ≡ drop p l.initial.nodes)

abbrev pub decreases-loop-at : goal.decreases-loop-at
decreases-loop-at l = l.at
