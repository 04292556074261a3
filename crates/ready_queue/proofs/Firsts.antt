-- The item that comes first, in a list and in the leaves of a winner tree.
use Rattle.std.proofs.Common.{◌≡◌, ℕ, suc, zero, ◌+◌, ◌-◌, ◌*◌, ◌≤◌, Bool, true, false, cond, List, [], ◌∷◌, Option, Some, None, ◌⊎◌, length, get_or, drop, option_map, refl, sym, ap, subst, inl, inr, ◌∙◌, arith}
use Rattle.std.specs.Prelude.{Contains, IfSome, IsNone, ◌↔◌}
use Rattle.std.specs.List.{AllByRecursion}
use Rattle.std.proofs.lemmas.List.{get_or-drop}
use Rattle.mc_task.specs.declared.task.TaskNo.{TaskNo}
use Rattle.ready_queue.specs.declared.item.Item.{Item}
use Rattle.ready_queue.specs.Items.{before, first_of_two, least, IsFirstItem}
use Rattle.ready_queue.specs.Tree.{winner, node, IsTree}
use Rattle.ready_queue.specs.Representation.{items_in}
use Rattle.ready_queue.proofs.Matches.{beats, beats-trans, beats-tie, winner_left, winner_right, winner_is, earlier-self, earlier-back, earlier-trans}
use Rattle.ready_queue.proofs.Trees.{Leaf, a_leaf, root_first}

-- the winner of all matches of a list
abbrev pub best : List (Option Item) → Option Item
best [] = None
best (x ∷ xs) = winner x (best xs)

-- the item of the leaves that comes first is the winner
pub least-items_in : (leaves : List (Option Item)) → least (items_in leaves) ≡ best leaves
least-items_in [] = refl
least-items_in (None ∷ leaves) = least-items_in leaves
least-items_in (Some i ∷ leaves) = ap (λ (o : Option Item). Some (first_of_two i o)) (least-items_in leaves)

-- no leaf beats the winner
best_first : (leaves : List (Option Item)) (k : ℕ) → beats (get_or leaves k None) (best leaves) ≡ false
best_first [] k = refl
best_first (x ∷ xs) zero = winner_left x (best xs)
best_first (x ∷ xs) (suc k) = beats-trans (winner x (best xs)) (best xs) (get_or xs k None) (winner_right x (best xs)) (best_first xs k)

-- the winner stands at a leaf
best_there : (leaves : List (Option Item)) → (k : ℕ) × (get_or leaves k None ≡ best leaves)
best_there [] = (0, refl)
best_there (x ∷ xs) = go (best_there xs) (winner_is x (best xs))
  where
    go : (k : ℕ) × (get_or xs k None ≡ best xs) → (winner x (best xs) ≡ x) ⊎ (winner x (best xs) ≡ best xs) → (k : ℕ) × (get_or (x ∷ xs) k None ≡ winner x (best xs))
    go there (inl e) = (0, sym e)
    go there (inr e) = (suc there.0, there.1 ∙ sym e)

-- the task of an item, if there is one
abbrev pub task_in : Option Item → Option TaskNo
task_in o = option_map (λ (i : Item). i.task) o

-- the root has the task of the item that comes first
pub root_is_least : (nodes : List (Option Item)) (p : ℕ) → length nodes ≡ 2 * p → 1 ≤ p → IsTree nodes → task_in (node nodes 1) ≡ task_in (least (items_in (drop p nodes)))
root_is_least nodes p len some tree =
    let leaf : Leaf nodes p 1 = a_leaf nodes p len tree (2 * p) 1 (omega arith) (omega arith) in
    let won : (k : ℕ) × (get_or (drop p nodes) k None ≡ best (drop p nodes)) = best_there (drop p nodes) in
    let at : p + (leaf.at - p) ≡ leaf.at = let low : p ≤ leaf.at = leaf.low in omega arith in
    let leaf_there : get_or (drop p nodes) (leaf.at - p) None ≡ node nodes 1 =
    get_or-drop p nodes (leaf.at - p) None ∙ ap (node nodes) at ∙ leaf.same in
    let won_there : node nodes (p + won.0) ≡ best (drop p nodes) = sym (get_or-drop p nodes won.0 None) ∙ won.1 in
    let no_leaf : beats (node nodes 1) (best (drop p nodes)) ≡ false =
    subst (λ (o : Option Item). beats o (best (drop p nodes)) ≡ false) leaf_there (best_first (drop p nodes) (leaf.at - p)) in
    let no_place : beats (best (drop p nodes)) (node nodes 1) ≡ false =
    subst (λ (o : Option Item). beats o (node nodes 1) ≡ false) won_there (root_first nodes p len tree (p + won.0) (omega arith)) in
    beats-tie (node nodes 1) (best (drop p nodes)) no_leaf no_place ∙ ap task_in (sym (least-items_in (drop p nodes)))

-- x is in the list, and no item of the list comes before it
pub record IsFirst (items : List Item) (x : Item) : Type 0 where
  pub there : Contains items x
  pub others : AllByRecursion (λ j. before j x ≡ false) items

contains_more : (i x : Item) (items : List Item) → Contains items x → Contains (i ∷ items) x
contains_more i x items there = (suc there.0, omega (arith, there.1), there.2)

all_later : (x y : Item) (items : List Item) → before x y ≡ false → AllByRecursion (λ j. before j x ≡ false) items → AllByRecursion (λ j. before j y ≡ false) items
all_later x y [] h all = tt
all_later x y (j ∷ items) h all = (earlier-trans y.key y.task.0 x.key x.task.0 j.key j.task.0 h all.0, all_later x y items h all.1)

-- the least of a list comes first in it
pub least_first : (i : Item) (items : List Item) → IsFirst (i ∷ items) (first_of_two i (least items))
least_first i [] = record { there = (0, omega arith, refl); others = (earlier-self i.key i.task.0, tt) }
least_first i (n ∷ items) = go (least_first n items) (before (first_of_two n (least items)) i) refl
  where
    y : Item
    y = first_of_two n (least items)

    go : IsFirst (n ∷ items) y → (b : Bool) → before y i ≡ b → IsFirst (i ∷ n ∷ items) (cond b y i)
    go f true m = record {
      there = contains_more i y (n ∷ items) f.there;
      others = (earlier-back y.key y.task.0 i.key i.task.0 m, f.others);
    }
    go f false m = record {
      there = (0, omega arith, refl);
      others = (earlier-self i.key i.task.0, all_later y i (n ∷ items) m f.others);
    }

-- the task of the least item has the first item
pub is_least : (items : List Item) (task : TaskNo) → Some task ≡ task_in (least items) → IsFirstItem items task
is_least [] task e = cc
is_least (i ∷ items) task e =
    let f : IsFirst (i ∷ items) (first_of_two i (least items)) = least_first i items in
    record { item = first_of_two i (least items); of_task = the_one task (first_of_two i (least items)).task e; there = f.there; others = f.others }
  where
    the_one : (a b : TaskNo) → Some a ≡ Some b → b ≡ a
    the_one a b h = cc

-- a list has no least item exactly if it is empty
pub none_least : (items : List Item) → None ≡ task_in (least items) → items ≡ []
none_least [] e = refl
none_least (i ∷ items) e = cc

-- a task returned as that of the least item has the first item
pub first_if_some : (items : List Item) (o : Option TaskNo) → o ≡ task_in (least items) → IfSome o (IsFirstItem items)
first_if_some items None e = tt
first_if_some items (Some task) e = is_least items task e

pub none_iff : (items : List Item) (o : Option TaskNo) → o ≡ task_in (least items) → IsNone o ↔ (items ≡ [])
none_iff items None e = (λ h. none_least items e, λ h. refl)
none_iff items (Some task) e = (λ h. absurd (cc), λ (h : items ≡ []). absurd (no_task task (e ∙ ap (λ (is : List Item). task_in (least is)) h)))
  where
    no_task : (task : TaskNo) → Some task ≡ None → ⊥
    no_task task h = cc
