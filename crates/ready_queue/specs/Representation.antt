-- How a queue is stored: task number k has leaf k of a winner tree.
use Rattle.std.specs.Prelude.{◌≡◌, ℕ, ◌+◌, ◌*◌, ◌≤◌, List, [], ◌∷◌, length, drop, Option, Some, None}
use Rattle.ready_queue.specs.declared.item.Item.{Item}
use Rattle.ready_queue.specs.declared.queue.ReadyQueue.TheInside.{Inside}
use Rattle.ready_queue.specs.Items.{Queue}
use Rattle.ready_queue.specs.Tree.{IsTree}

-- the items of the leaves that are not free
abbrev pub items_in : List (Option Item) → List Item
items_in [] = []
items_in (None ∷ leaves) = items_in leaves
items_in (Some i ∷ leaves) = i ∷ items_in leaves

-- each leaf is free or has the item of its own task; the first leaf belongs to task number k
abbrev pub AreLeavesFrom : ℕ → List (Option Item) → Type 0
AreLeavesFrom k [] = Unit {0}
AreLeavesFrom k (None ∷ leaves) = AreLeavesFrom (k + 1) leaves
AreLeavesFrom k (Some i ∷ leaves) = (i.task.0 ≡ k) × AreLeavesFrom (k + 1) leaves

-- the items at the leaves, the last half of the array
abbrev pub items_at : ℕ → List (Option Item) → List Item
items_at places nodes = items_in (drop places nodes)

-- there is a leaf for each task number, free or with an item of its own task, and each node above has the
-- winner of the two below
pub record AreNodes (places : ℕ) (nodes : List (Option Item)) : Type 0 where
  pub some : 1 ≤ places
  pub few : places ≤ 128
  pub room : length nodes ≡ 2 * places
  pub own : AreLeavesFrom 1 (drop places nodes)
  pub tree : IsTree nodes

-- the queue of these nodes, in contracts
abbrev pub queue_at : ℕ → List (Option Item) → Queue
queue_at places nodes = record { places = places; items = items_at places nodes }

-- a queue in contracts: its capacity and its items
abbrev pub queue_of : Inside → Queue
queue_of a = queue_at a.places a.nodes.items

-- the invariant of a queue
abbrev pub IsQueue : Inside → Type 0
IsQueue a = AreNodes a.places a.nodes.items
