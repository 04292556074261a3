use Rattle.std.proofs.Common.{◌≡◌, ◌+◌, ◌*◌, ◌<◌, ◌≤◌, ℕ, length, drop}
use Rattle.ready_queue.specs.Tree.{IsPlayed}
use Rattle.ready_queue.proofs.tree.play_all.Given as goal

abbrev pub invariant-loop-at : goal.invariant-loop-at
invariant-loop-at l =
    (length l.nodes ≡ length l.initial.nodes) × ((k : ℕ) → l.at ≤ k → 1 ≤ k → 2 * k + 1 < length l.nodes → IsPlayed l.nodes k)
    × (drop l.places l.nodes ≡ drop l.places l.initial.nodes)
