-- The items by their leaves, of which the first is that of task number k.
use Rattle.std.proofs.Common.{◌≡◌, ℕ, suc, zero, ◌+◌, ◌<◌, ◌≤◌, Bool, true, false, not, ◌==◌, nat_lt, cond, List, [], ◌∷◌, Option, Some, None, length, get_or, set, map, filter, replicate, refl, sym, ap, arith, eq-eqb}
use Rattle.std.proofs.lemmas.Bool.Decides.{nat_tests}
use Rattle.ready_queue.specs.declared.item.Item.{Item}
use Rattle.ready_queue.specs.Items.{item_of, with_item, without, by_real, AreItemsFrom}
use Rattle.ready_queue.specs.Tree.{rekeyed}
use Rattle.ready_queue.specs.Representation.{items_in, AreLeavesFrom}

less_number : (a b : ℕ) → a < b → nat_lt a b ≡ true
less_number a b e = grind (arith, nat_tests)

no_less_number : (a b : ℕ) → b ≤ a → nat_lt a b ≡ false
no_less_number a b e = grind (arith, nat_tests)

-- an item of a lower task number goes before all items of the leaves
with_item-first : (i : Item) (k : ℕ) (leaves : List (Option Item)) → i.task.0 < k → AreLeavesFrom k leaves → with_item i (items_in leaves) ≡ i ∷ items_in leaves
with_item-first i k [] low own = refl
with_item-first i k (None ∷ leaves) low own = with_item-first i (k + 1) leaves (omega arith) own
with_item-first i k (Some j ∷ leaves) low own =
    let test : nat_lt i.task.0 j.task.0 ≡ true = less_number i.task.0 j.task.0 (let e : j.task.0 ≡ k = own.0 in omega arith) in
    rw test refl

-- an item that is put at its free leaf is one more item
pub items_in-set : (i : Item) (k n : ℕ) (leaves : List (Option Item)) → AreLeavesFrom k leaves → n < length leaves → i.task.0 ≡ k + n → get_or leaves n None ≡ None → items_in (set leaves n (Some i)) ≡ with_item i (items_in leaves)
items_in-set i k n [] own room number free = absurd (omega arith)
items_in-set i k zero (None ∷ leaves) own room number free = sym (with_item-first i (k + 1) leaves (omega arith) own)
items_in-set i k zero (Some j ∷ leaves) own room number free = absurd (cc)
items_in-set i k (suc n) (None ∷ leaves) own room number free = items_in-set i (k + 1) n leaves own (omega arith) (omega arith) free
items_in-set i k (suc n) (Some j ∷ leaves) own room number free =
    let test : nat_lt i.task.0 j.task.0 ≡ false = no_less_number i.task.0 j.task.0 (let e : j.task.0 ≡ k = own.0 in omega arith) in
    rw test (ap (λ (is : List Item). j ∷ is) (items_in-set i (k + 1) n leaves own.1 (omega arith) (omega arith) free))

-- if all leaves are of higher task numbers, removing a task takes nothing out
without-none : (t k : ℕ) (leaves : List (Option Item)) → t < k → AreLeavesFrom k leaves → without t (items_in leaves) ≡ items_in leaves
without-none t k [] low own = refl
without-none t k (None ∷ leaves) low own = without-none t (k + 1) leaves (omega arith) own
without-none t k (Some j ∷ leaves) low own =
    let here : j.task.0 ≡ k = own.0 in
    let test : (j.task.0 == t) ≡ false = grind (arith, nat_tests) in
    rw test (ap (λ (is : List Item). j ∷ is) (without-none t (k + 1) leaves (omega arith) own.1))

-- clearing a leaf takes its task's item out
pub items_in-clear : (k n : ℕ) (leaves : List (Option Item)) → AreLeavesFrom k leaves → items_in (set leaves n None) ≡ without (k + n) (items_in leaves)
items_in-clear k n [] own = refl
items_in-clear k zero (None ∷ leaves) own = sym (without-none (k + 0) (k + 1) leaves (omega arith) own)
items_in-clear k zero (Some j ∷ leaves) own =
    let test : (j.task.0 == k + 0) ≡ true = eq-eqb j.task.0 (k + 0) (let e : j.task.0 ≡ k = own.0 in omega arith) in
    rw test (sym (without-none (k + 0) (k + 1) leaves (omega arith) own.1))
items_in-clear k (suc n) (None ∷ leaves) own =
    let e : k + suc n ≡ k + 1 + n = omega arith in
    rw e (items_in-clear (k + 1) n leaves own)
items_in-clear k (suc n) (Some j ∷ leaves) own =
    let e : k + suc n ≡ k + 1 + n = omega arith in
    let here : j.task.0 ≡ k = own.0 in
    let test : (j.task.0 == k + suc n) ≡ false = grind (arith, nat_tests) in
    let rest : items_in (set leaves n None) ≡ without (k + suc n) (items_in leaves) = rw e (items_in-clear (k + 1) n leaves own.1) in
    rw test (ap (λ (is : List Item). j ∷ is) rest)

-- if all leaves are of higher task numbers, a task has no item
item_of-none : (t k : ℕ) (leaves : List (Option Item)) → t < k → AreLeavesFrom k leaves → item_of (items_in leaves) t ≡ None
item_of-none t k [] low own = refl
item_of-none t k (None ∷ leaves) low own = item_of-none t (k + 1) leaves (omega arith) own
item_of-none t k (Some j ∷ leaves) low own =
    let here : j.task.0 ≡ k = own.0 in
    let test : (j.task.0 == t) ≡ false = grind (arith, nat_tests) in
    rw test (item_of-none t (k + 1) leaves (omega arith) own.1)

-- a task's item is the one at its leaf
pub item_of-items_in : (k n : ℕ) (leaves : List (Option Item)) → AreLeavesFrom k leaves → item_of (items_in leaves) (k + n) ≡ get_or leaves n None
item_of-items_in k n [] own = refl
item_of-items_in k zero (None ∷ leaves) own = item_of-none (k + 0) (k + 1) leaves (omega arith) own
item_of-items_in k zero (Some j ∷ leaves) own =
    let test : (j.task.0 == k + 0) ≡ true = eq-eqb j.task.0 (k + 0) (let e : j.task.0 ≡ k = own.0 in omega arith) in
    rw test refl
item_of-items_in k (suc n) (None ∷ leaves) own =
    let e : k + suc n ≡ k + 1 + n = omega arith in
    rw e (item_of-items_in (k + 1) n leaves own)
item_of-items_in k (suc n) (Some j ∷ leaves) own =
    let e : k + suc n ≡ k + 1 + n = omega arith in
    let here : j.task.0 ≡ k = own.0 in
    let test : (j.task.0 == k + suc n) ≡ false = grind (arith, nat_tests) in
    let rest : item_of (items_in leaves) (k + suc n) ≡ get_or leaves n None = rw e (item_of-items_in (k + 1) n leaves own.1) in
    rw test rest

-- no task has number 0
pub item_of-zero : (leaves : List (Option Item)) → AreLeavesFrom 1 leaves → item_of (items_in leaves) 0 ≡ None
item_of-zero leaves own = item_of-none 0 1 leaves (omega arith) own

-- removing a task that has no item takes nothing out
pub without-nobody : (t : ℕ) (items : List Item) → item_of items t ≡ None → without t items ≡ items
without-nobody t [] none = refl
without-nobody t (j ∷ items) none = go (without-nobody t items) (j.task.0 == t) none
  where
    go : (item_of items t ≡ None → without t items ≡ items) → (b : Bool) → cond b (Some j) (item_of items t) ≡ None → cond (not b) (j ∷ without t items) (without t items) ≡ j ∷ items
    go ih true h = cc
    go ih false h = ap (λ (is : List Item). j ∷ is) (ih h)

-- in high mode the items of high tasks remain, by their real deadlines
pub items_in-rekeyed : (leaves : List (Option Item)) → items_in (map rekeyed leaves) ≡ map by_real (filter (λ i. i.high) (items_in leaves))
items_in-rekeyed [] = refl
items_in-rekeyed (None ∷ leaves) = items_in-rekeyed leaves
items_in-rekeyed (Some i ∷ leaves) = go (items_in-rekeyed leaves) i.high
  where
    go : items_in (map rekeyed leaves) ≡ map by_real (filter (λ i. i.high) (items_in leaves)) → (b : Bool) → items_in (cond b (Some (by_real i)) None ∷ map rekeyed leaves) ≡ map by_real (cond b (i ∷ filter (λ i. i.high) (items_in leaves)) (filter (λ i. i.high) (items_in leaves)))
    go ih true = ap (λ (is : List Item). by_real i ∷ is) ih
    go ih false = ih

-- a leaf takes the item of its own task
pub AreLeavesFrom-set : (i : Item) (k n : ℕ) (leaves : List (Option Item)) → AreLeavesFrom k leaves → i.task.0 ≡ k + n → AreLeavesFrom k (set leaves n (Some i))
AreLeavesFrom-set i k n [] own number = tt
AreLeavesFrom-set i k zero (None ∷ leaves) own number = (omega arith, own)
AreLeavesFrom-set i k zero (Some j ∷ leaves) own number = (omega arith, own.1)
AreLeavesFrom-set i k (suc n) (None ∷ leaves) own number = AreLeavesFrom-set i (k + 1) n leaves own (omega arith)
AreLeavesFrom-set i k (suc n) (Some j ∷ leaves) own number = (own.0, AreLeavesFrom-set i (k + 1) n leaves own.1 (omega arith))

-- a leaf may be cleared
pub AreLeavesFrom-clear : (k n : ℕ) (leaves : List (Option Item)) → AreLeavesFrom k leaves → AreLeavesFrom k (set leaves n None)
AreLeavesFrom-clear k n [] own = tt
AreLeavesFrom-clear k zero (None ∷ leaves) own = own
AreLeavesFrom-clear k zero (Some j ∷ leaves) own = own.1
AreLeavesFrom-clear k (suc n) (None ∷ leaves) own = AreLeavesFrom-clear (k + 1) n leaves own
AreLeavesFrom-clear k (suc n) (Some j ∷ leaves) own = (own.0, AreLeavesFrom-clear (k + 1) n leaves own.1)

-- in high mode the items keep their leaves
pub AreLeavesFrom-rekeyed : (k : ℕ) (leaves : List (Option Item)) → AreLeavesFrom k leaves → AreLeavesFrom k (map rekeyed leaves)
AreLeavesFrom-rekeyed k [] own = tt
AreLeavesFrom-rekeyed k (None ∷ leaves) own = AreLeavesFrom-rekeyed (k + 1) leaves own
AreLeavesFrom-rekeyed k (Some i ∷ leaves) own = go (AreLeavesFrom-rekeyed (k + 1) leaves own.1) i.high
  where
    go : AreLeavesFrom (k + 1) (map rekeyed leaves) → (b : Bool) → AreLeavesFrom k (cond b (Some (by_real i)) None ∷ map rekeyed leaves)
    go rest true = (own.0, rest)
    go rest false = rest

-- free leaves are valid leaves
pub AreLeavesFrom-free : (k n : ℕ) → AreLeavesFrom k (replicate n None)
AreLeavesFrom-free k zero = tt
AreLeavesFrom-free k (suc n) = AreLeavesFrom-free (k + 1) n

-- free leaves have no items
pub items_in-free : (n : ℕ) → items_in (replicate n None) ≡ []
items_in-free zero = refl
items_in-free (suc n) = items_in-free n

-- the items are of different tasks, in the order of the tasks' numbers
pub are_items : (above k places : ℕ) (leaves : List (Option Item)) → above < k → k + length leaves ≤ places + 1 → AreLeavesFrom k leaves → AreItemsFrom above places (items_in leaves)
are_items above k places [] low room own = tt
are_items above k places (None ∷ leaves) low room own = are_items above (k + 1) places leaves (omega arith) (omega arith) own
are_items above k places (Some i ∷ leaves) low room own =
    let number : i.task.0 ≡ k = own.0 in
    (omega arith, omega arith, are_items i.task.0 (k + 1) places leaves (omega arith) (omega arith) own.1)
