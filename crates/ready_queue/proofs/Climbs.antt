-- Matches that are played from a leaf to the root.
use Rattle.std.proofs.Common.{◌≡◌, ℕ, ◌+◌, ◌*◌, ◌/◌, ◌<◌, ◌≤◌, ◌⊎◌, List, Option, None, length, set, inl, inr, arith}
use Rattle.std.proofs.lemmas.Bool.{cases_eq}
use Rattle.std.proofs.lemmas.List.{get_or-set_same, get_or-set_other, length-set}
use Rattle.ready_queue.specs.declared.item.Item.{Item}
use Rattle.ready_queue.specs.Tree.{winner, node, IsPlayed, IsTreeBut}

-- after the match of a node only the node above may lack its winner
pub climbed : (nodes : List (Option Item)) (at : ℕ) (won : Option Item) → 1 ≤ at → 2 * at + 1 < length nodes →
    won ≡ winner (node nodes (2 * at)) (node nodes (2 * at + 1)) → IsTreeBut at nodes → IsTreeBut (at / 2) (set nodes at won)
climbed nodes at won some pair is tree k first inside other = go (cases_eq k at)
  where
    other_node : (j : ℕ) → (j ≡ at → ⊥) → node (set nodes at won) j ≡ node nodes j
    other_node j differs = get_or-set_other nodes at j won None differs

    go : (k ≡ at) ⊎ (k ≡ at → ⊥) → IsPlayed (set nodes at won) k
    go (inl same) =
        let left = other_node (2 * at) (λ e. omega (arith, some, e)) in
        let right = other_node (2 * at + 1) (λ e. omega (arith, some, e)) in
        rw (same, left, right, get_or-set_same nodes at won None (omega (arith, pair))) is
    go (inr differs) =
        let here = other_node k differs in
        let left = other_node (2 * k) (λ e. other (omega (arith, e))) in
        let right = other_node (2 * k + 1) (λ e. other (omega (arith, e))) in
        rw (here, left, right) (tree k first (omega (arith, inside, length-set nodes at won)) differs)
