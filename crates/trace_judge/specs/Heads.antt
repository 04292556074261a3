-- The least keys of the queues, in a tree in one array.
use Rattle.std.specs.Prelude.{◌≡◌, ◌≢◌, ℕ, ◌+◌, ◌*◌, ◌/◌, ◌^◌, ◌<◌, ◌≤◌, min, List, length, drop, slice_index}

-- the key at the head of a queue without a job: no job has so great a key
abbrev pub no_key : ℕ
no_key = 2 ^ 127

-- node k has the lesser key of its two children
abbrev pub IsLesser : List ℕ → ℕ → Type 0
IsLesser nodes k = slice_index nodes k ≡ min (slice_index nodes (2 * k)) (slice_index nodes (2 * k + 1))

-- each node with two children, except perhaps this one, has the lesser of their keys
abbrev pub IsTreeBut : ℕ → List ℕ → Type 0
IsTreeBut except nodes = (k : ℕ) → 1 ≤ k → 2 * k + 1 < length nodes → k ≢ except → IsLesser nodes k

-- each node with two children has the lesser of their keys
abbrev pub IsTree : List ℕ → Type 0
IsTree nodes = (k : ℕ) → 1 ≤ k → 2 * k + 1 < length nodes → IsLesser nodes k

-- a child of this node has been lowered to this key, and the node has not been lowered yet
abbrev pub IsLowered : ℕ → ℕ → List ℕ → Type 0
IsLowered k key nodes =
    1 ≤ k → min (slice_index nodes k) key ≡ min (slice_index nodes (2 * k)) (slice_index nodes (2 * k + 1))

-- the leaves of a tree: the last half of its nodes
abbrev pub leaves : List ℕ → List ℕ
leaves nodes = drop (length nodes / 2) nodes

-- a tree whose leaves are half of the array, with at least one leaf
pub record AreNodes (nodes : List ℕ) : Type 0 where
  pub some : 2 ≤ length nodes
  pub even : length nodes ≡ 2 * (length nodes / 2)
  pub tree : IsTree nodes
