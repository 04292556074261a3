-- Each call leaves a valid queue with the items that it should have.
use Rattle.std.proofs.Common.{◌≡◌, ℕ, ◌+◌, ◌-◌, ◌*◌, ◌<◌, ◌≤◌, ◌⊎◌, false, is_some, List, [], Option, Some, None, length, get_or, set, drop, map, filter, replicate, refl, sym, ap, subst, inl, inr, ◌∙◌, arith}
use Rattle.std.proofs.lemmas.List.{length-drop, get_or-drop, drop-replicate, length-replicate, get_or-replicate, get_or_past}
use Rattle.std.proofs.lemmas.Bool.{cases_lt}
use Rattle.ready_queue.specs.declared.item.Item.{Item}
use Rattle.ready_queue.specs.Items.{Queue, item_of, with_item, without, by_real, AreItems}
use Rattle.ready_queue.specs.Tree.{rekeyed, IsTree}
use Rattle.ready_queue.specs.Representation.{items_at, AreLeavesFrom, AreNodes}
use Rattle.ready_queue.proofs.Leaves.{items_in-set, items_in-clear, items_in-rekeyed, items_in-free, item_of-items_in, item_of-zero, without-nobody, AreLeavesFrom-set, AreLeavesFrom-clear, AreLeavesFrom-rekeyed, AreLeavesFrom-free, are_items}

-- a queue with other items in place of its own
abbrev pub with_items_of : Queue → List Item → Queue
with_items_of q items = record q { items = items }

-- the tree after a change of its leaves is a winner tree of the changed leaves
pub record Changed (change : List (Option Item) → List (Option Item)) (places : ℕ) (nodes after : List (Option Item)) : Type 0 where
  pub room : length after ≡ length nodes
  pub tree : IsTree after
  pub leaves : drop places after ≡ change (drop places nodes)

-- the nodes after a change of the leaves, by the nodes before it
pub changed :
    (change : List (Option Item) → List (Option Item)) (places : ℕ) (nodes seen after : List (Option Item)) → seen ≡ nodes →
    length after ≡ length seen → IsTree after → drop places after ≡ change (drop places seen) → Changed change places nodes after
changed change places nodes seen after e len tree leaves =
    record { room = len ∙ ap length e; tree = tree; leaves = leaves ∙ ap (λ (ns : List (Option Item)). change (drop places ns)) e }

-- a change that leaves each item at its own leaf
rekept :
    (change : List (Option Item) → List (Option Item)) (places : ℕ) (nodes after : List (Option Item)) → AreNodes places nodes →
    Changed change places nodes after → AreLeavesFrom 1 (change (drop places nodes)) → AreNodes places after
rekept change places nodes after kept new own =
    record { some = kept.some; few = kept.few; room = new.room ∙ kept.room; own = subst (AreLeavesFrom 1) (sym new.leaves) own; tree = new.tree }

-- there are as many leaves as slots
leaf_count : (places : ℕ) (nodes : List (Option Item)) → AreNodes places nodes → length (drop places nodes) ≡ places
leaf_count places nodes kept = length-drop places nodes ∙ (let room : length nodes ≡ 2 * places = kept.room in omega arith)

-- the leaves with an item put at its task's leaf
abbrev pub put_item : Item → List (Option Item) → List (Option Item)
put_item i leaves = set leaves (i.task.0 - 1) (Some i)

pub kept_insert : (places : ℕ) (i : Item) (nodes after : List (Option Item)) → AreNodes places nodes → Changed (put_item i) places nodes after → 1 ≤ i.task.0 → AreNodes places after
kept_insert places i nodes after kept new some =
    rekept (put_item i) places nodes after kept new (AreLeavesFrom-set i 1 (i.task.0 - 1) (drop places nodes) kept.own (omega arith))

pub items_insert :
    (places : ℕ) (i : Item) (nodes after : List (Option Item)) → AreNodes places nodes → Changed (put_item i) places nodes after →
    1 ≤ i.task.0 → i.task.0 ≤ places → item_of (items_at places nodes) i.task.0 ≡ None → items_at places after ≡ with_item i (items_at places nodes)
items_insert places i nodes after kept new some place free =
    let number : i.task.0 ≡ 1 + (i.task.0 - 1) = omega arith in
    let room : i.task.0 - 1 < length (drop places nodes) = let count : length (drop places nodes) ≡ places = leaf_count places nodes kept in omega arith in
    let at_leaf : get_or (drop places nodes) (i.task.0 - 1) None ≡ None =
    sym (item_of-items_in 1 (i.task.0 - 1) (drop places nodes) kept.own) ∙ subst (λ (k : ℕ). item_of (items_at places nodes) k ≡ None) number free in
    rw new.leaves (items_in-set i 1 (i.task.0 - 1) (drop places nodes) kept.own room number at_leaf)

-- the leaves with one task's leaf cleared
abbrev pub clear_task : ℕ → List (Option Item) → List (Option Item)
clear_task number leaves = set leaves (number - 1) None

pub kept_remove : (places number : ℕ) (nodes after : List (Option Item)) → AreNodes places nodes → Changed (clear_task number) places nodes after → AreNodes places after
kept_remove places number nodes after kept new = rekept (clear_task number) places nodes after kept new (AreLeavesFrom-clear 1 (number - 1) (drop places nodes) kept.own)

pub items_remove :
    (places number : ℕ) (nodes after : List (Option Item)) → AreNodes places nodes → Changed (clear_task number) places nodes after → 1 ≤ number →
    items_at places after ≡ without number (items_at places nodes)
items_remove places number nodes after kept new some =
    let at : 1 + (number - 1) ≡ number = omega arith in
    rw new.leaves (items_in-clear 1 (number - 1) (drop places nodes) kept.own) ∙ ap (λ (k : ℕ). without k (items_at places nodes)) at

-- removing a task that has no item leaves the queue as it is
pub nothing_out : (q : Queue) (number : ℕ) → false ≡ is_some (item_of q.items number) → q ≡ with_items_of q (without number q.items)
nothing_out q number none = ap (with_items_of q) (sym (without-nobody number q.items (no_item (item_of q.items number) none)))
  where
    no_item : (o : Option Item) → false ≡ is_some o → o ≡ None
    no_item None h = refl
    no_item (Some i) h = cc

-- after the change to high mode each leaf has its task's item or none
pub kept_rekey : (places : ℕ) (nodes after : List (Option Item)) → AreNodes places nodes → Changed (map rekeyed) places nodes after → AreNodes places after
kept_rekey places nodes after kept new = rekept (map rekeyed) places nodes after kept new (AreLeavesFrom-rekeyed 1 (drop places nodes) kept.own)

pub items_rekey : (places : ℕ) (nodes after : List (Option Item)) → Changed (map rekeyed) places nodes after → items_at places after ≡ map by_real (filter (λ i. i.high) (items_at places nodes))
items_rekey places nodes after new = rw new.leaves (items_in-rekeyed (drop places nodes))

-- a task's item is the one at its leaf
pub item_there :
    (places number : ℕ) (nodes : List (Option Item)) → AreNodes places nodes → 1 ≤ number →
    item_of (items_at places nodes) number ≡ get_or nodes (places + number - 1) None
item_there places number nodes kept some =
    let leaf : 1 + (number - 1) ≡ number = omega arith in
    let at : places + (number - 1) ≡ places + number - 1 = omega arith in
    subst (λ (k : ℕ). item_of (items_at places nodes) k ≡ get_or nodes (places + number - 1) None) leaf
    (item_of-items_in 1 (number - 1) (drop places nodes) kept.own ∙ get_or-drop places nodes (number - 1) None ∙ ap (λ (k : ℕ). get_or nodes k None) at)

-- no task has number 0
pub item_zero : (places : ℕ) (nodes : List (Option Item)) → AreNodes places nodes → item_of (items_at places nodes) 0 ≡ None
item_zero places nodes kept = item_of-zero (drop places nodes) kept.own

-- a task number above the capacity has no item
pub item_above : (places number : ℕ) (nodes : List (Option Item)) → AreNodes places nodes → places < number → item_of (items_at places nodes) number ≡ None
item_above places number nodes kept above =
    let some : 1 ≤ places = kept.some in
    let room : length nodes ≡ 2 * places = kept.room in
    item_there places number nodes kept (omega arith) ∙ get_or_past nodes (places + number - 1) None (omega arith)

-- an array of free slots
abbrev pub no_nodes : ℕ → List (Option Item)
no_nodes n = replicate n None

-- each slot of a new array is free
no_node : (n k : ℕ) → get_or (no_nodes n) k None ≡ None
no_node n k = go (cases_lt k n)
  where
    go : (k < n) ⊎ (n ≤ k) → get_or (no_nodes n) k None ≡ None
    go (inl within) = get_or-replicate n k None None within
    go (inr past) = get_or_past (no_nodes n) k None (subst (λ (m : ℕ). m ≤ k) (sym (length-replicate n None)) past)

pub kept_new : (places : ℕ) → 1 ≤ places → places ≤ 128 → AreNodes places (no_nodes (2 * places))
kept_new places some few = record {
  some = some;
  few = few;
  room = length-replicate (2 * places) None;
  own = subst (AreLeavesFrom 1) (sym (drop-replicate places (2 * places) None)) (AreLeavesFrom-free 1 (2 * places - places));
  tree = λ k first within. rw (no_node (2 * places) k, no_node (2 * places) (2 * k), no_node (2 * places) (2 * k + 1)) refl;
}

pub items_new : (places : ℕ) → items_at places (no_nodes (2 * places)) ≡ []
items_new places =
    let free : drop places (no_nodes (2 * places)) ≡ no_nodes (2 * places - places) = drop-replicate places (2 * places) None in
    rw free (items_in-free (2 * places - places))

-- the items are of different tasks, in the order of the tasks' numbers
pub kept_items : (places : ℕ) (nodes : List (Option Item)) → AreNodes places nodes → AreItems places (items_at places nodes)
kept_items places nodes kept = are_items 0 1 places (drop places nodes) (omega arith) (let count : length (drop places nodes) ≡ places = leaf_count places nodes kept in omega arith) kept.own
