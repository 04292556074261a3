-- Winner trees in one array.
use Rattle.std.specs.Prelude.{◌≡◌, ◌≢◌, ℕ, ◌+◌, ◌*◌, ◌<◌, ◌≤◌, cond, List, length, slice_index_or, Option, Some, None}
use Rattle.ready_queue.specs.declared.item.Item.{Item}
use Rattle.ready_queue.specs.Items.{first_of_two, by_real}

-- the item of the two that comes first; the other one if either is none
abbrev pub winner : Option Item → Option Item → Option Item
winner None b = b
winner (Some i) b = Some (first_of_two i b)

-- an item after the change to high mode: a high task's item by its real deadline; a low task's item is
-- discarded
abbrev pub rekeyed : Option Item → Option Item
rekeyed None = None
rekeyed (Some i) = cond i.high (Some (by_real i)) None

-- the item at node k
abbrev pub node : List (Option Item) → ℕ → Option Item
node nodes k = slice_index_or nodes k None

-- node k has the winner of the two nodes below it
abbrev pub IsPlayed : List (Option Item) → ℕ → Type 0
IsPlayed nodes k = node nodes k ≡ winner (node nodes (2 * k)) (node nodes (2 * k + 1))

-- each node with two below it, except perhaps this one, has their winner
abbrev pub IsTreeBut : ℕ → List (Option Item) → Type 0
IsTreeBut except nodes = (k : ℕ) → 1 ≤ k → 2 * k + 1 < length nodes → k ≢ except → IsPlayed nodes k

-- each node with two below it has their winner
abbrev pub IsTree : List (Option Item) → Type 0
IsTree nodes = (k : ℕ) → 1 ≤ k → 2 * k + 1 < length nodes → IsPlayed nodes k
