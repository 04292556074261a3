-- The first element of a list that passes a test.
use Rattle.std.proofs.Common.{◌≡◌, ℕ, suc, ◌<◌, ◌≤◌, Bool, true, false, ◌&&◌, cond, List, [], ◌∷◌, ◌++◌, Some, None, length, take, drop, set, map, get_or, refl, sym, ap, ◌∙◌, arith, append_assoc}
use Rattle.std.specs.Prelude.{find}
use Rattle.std.specs.List.{list_any, list_all, remove}
use Rattle.std.proofs.lemmas.Bool.{and_parts}
use Rattle.std.proofs.lemmas.List.{set_split, set-get_or, map-append}
use Rattle.mc_model.specs.Sums.{total, when}
use Rattle.mc_model.proofs.Sums.{one}
use Rattle.trace_judge.specs.Firsts.{edit_first, change_first, remove_first, IsFirstAt}

-- `find` and `edit_first` pass over elements that fail

pub find_after : {X : Type 0} (p : X → Bool) (xs ys : List X) → list_any p xs ≡ false → find p (xs ++ ys) ≡ find p ys
find_after p [] ys h = refl
find_after p (x ∷ xs) ys h = grind (arith, find_after p xs ys)

pub edit_after : {X : Type 0} (p : X → Bool) (k : X → List X) (xs ys : List X) → list_any p xs ≡ false → edit_first p k (xs ++ ys) ≡ xs ++ edit_first p k ys
edit_after p k [] ys h = refl
edit_after p k (x ∷ xs) ys h = grind (arith, edit_after p k xs ys)

-- if all elements fail, `find` finds none and `edit_first` leaves the list as it is

pub find_none : {X : Type 0} (p : X → Bool) (xs : List X) → list_any p xs ≡ false → find p xs ≡ None
find_none p [] h = refl
find_none p (x ∷ xs) h = grind (arith, find_none p xs)

pub edit_none : {X : Type 0} (p : X → Bool) (k : X → List X) (xs : List X) → list_any p xs ≡ false → edit_first p k xs ≡ xs
edit_none p k [] h = refl
edit_none p k (x ∷ xs) h = grind (arith, edit_none p k xs)

-- `find` and `edit_first` on two joined lists, where only the first one matters

pub find_front : {X : Type 0} (p : X → Bool) (xs ys : List X) (x : X) → find p xs ≡ Some x → find p (xs ++ ys) ≡ Some x
find_front p [] ys x h = cc
find_front p (y ∷ xs) ys x h = grind (arith, find_front p xs ys x)

pub edit_front : {X : Type 0} (p : X → Bool) (k : X → List X) (xs ys : List X) → list_any p ys ≡ false → edit_first p k (xs ++ ys) ≡ edit_first p k xs ++ ys
edit_front p k [] ys h = edit_none p k ys h
edit_front p k (x ∷ xs) ys h = grind (arith, edit_front p k xs ys, append_assoc (k x) xs ys)

-- `find` and `edit_first` on a mapped list, by a test that agrees

pub find-map : {X Y : Type 0} (p : X → Bool) (q : Y → Bool) (f : X → Y) → ((x : X) → q (f x) ≡ p x) → (xs : List X) (x : X) → find p xs ≡ Some x →
    find q (map f xs) ≡ Some (f x)
find-map p q f same [] x h = cc
find-map p q f same (y ∷ ys) x h = grind (arith, same y, find-map p q f same ys x)

pub none-map : {X Y : Type 0} (p : X → Bool) (q : Y → Bool) (f : X → Y) → ((x : X) → q (f x) ≡ p x) → (xs : List X) → find p xs ≡ None → list_any q (map f xs) ≡ false
none-map p q f same [] h = refl
none-map p q f same (x ∷ xs) h = grind (arith, same x, none-map p q f same xs)

pub edit-map : {X Y : Type 0} (p : X → Bool) (q : Y → Bool) (f : X → Y) (k : X → List X) (l : Y → List Y) →
    ((x : X) → q (f x) ≡ p x) → ((x : X) → map f (k x) ≡ l (f x)) → (xs : List X) → map f (edit_first p k xs) ≡ edit_first q l (map f xs)
edit-map p q f k l same e [] = refl
edit-map p q f k l same e (x ∷ xs) = grind (arith, same x, edit-map p q f k l same e xs, e x, map-append f (k x) xs)

-- `find` and `edit_first`, by the index of the first element that passes

parts : {X : Type 0} (xs : List X) (i : ℕ) (d : X) → i < length xs → xs ≡ take i xs ++ get_or xs i d ∷ drop (suc i) xs
parts xs i d h = sym (set-get_or xs i d) ∙ set_split xs i (get_or xs i d) h

pub find_at : {X : Type 0} (p : X → Bool) (xs : List X) (i : ℕ) (d : X) → IsFirstAt p xs i → find p xs ≡ Some (get_or xs i d)
find_at p xs i d a =
    ap (find p) (parts xs i d a.inside) ∙ (find_after p (take i xs) (get_or xs i d ∷ drop (suc i) xs) a.before ∙ rw (a.here d) refl)

edit_at : {X : Type 0} (p : X → Bool) (k : X → List X) (xs : List X) (i : ℕ) (d : X) → IsFirstAt p xs i →
    edit_first p k xs ≡ take i xs ++ (k (get_or xs i d) ++ drop (suc i) xs)
edit_at p k xs i d a =
    ap (edit_first p k) (parts xs i d a.inside) ∙ (edit_after p k (take i xs) (get_or xs i d ∷ drop (suc i) xs) a.before ∙ rw (a.here d) refl)

pub change_at : {X : Type 0} (p : X → Bool) (f : X → X) (xs : List X) (i : ℕ) (d : X) → IsFirstAt p xs i → change_first p f xs ≡ set xs i (f (get_or xs i d))
change_at p f xs i d a = edit_at p (λ x. f x ∷ []) xs i d a ∙ sym (set_split xs i (f (get_or xs i d)) a.inside)

pub remove_at : {X : Type 0} (p : X → Bool) (xs : List X) (i : ℕ) → IsFirstAt p xs i → remove_first p xs ≡ remove xs i
remove_at p [] i a = absurd (omega (arith, a.inside))
remove_at p (x ∷ xs) i a = edit_at p (λ x. []) (x ∷ xs) i x a

-- what is found passes the test
pub found_is : {X : Type 0} (p : X → Bool) (x : X) (xs : List X) → find p xs ≡ Some x → p x ≡ true
found_is p x [] h = cc
found_is p x (y ∷ xs) h = grind (arith, found_is p x xs)

-- what is found passes each test that all elements pass
pub found_passes : {X : Type 0} (q p : X → Bool) (x : X) (xs : List X) → list_all q xs ≡ true → find p xs ≡ Some x → q x ≡ true
found_passes q p x [] a h = cc
found_passes q p x (y ∷ xs) a h = grind (arith, found_passes q p x xs, and_parts (q y) (list_all q xs) a)

-- if an element is found, some element passes
pub found_any : {X : Type 0} (p : X → Bool) (x : X) (xs : List X) → find p xs ≡ Some x → list_any p xs ≡ true
found_any p x [] h = cc
found_any p x (y ∷ xs) h = grind (arith, found_any p x xs)

-- if the element that is found passes another test, some element passes both tests
pub found_both : {X : Type 0} (p q : X → Bool) (x : X) (xs : List X) → q x ≡ true → find p xs ≡ Some x → list_any (λ y. p y && q y) xs ≡ true
found_both p q x [] a h = cc
found_both p q x (y ∷ xs) a h = grind (arith, found_both p q x xs)

-- if no element passes the first of two tests, none passes both
none_both : {X : Type 0} (p q : X → Bool) (xs : List X) → total (when p one) xs ≡ 0 → list_any (λ y. p y && q y) xs ≡ false
none_both p q [] h = refl
none_both p q (x ∷ xs) h = grind (arith, none_both p q xs)

-- if the only element that passes a test is found, and fails another test, no element passes both
pub one_fails : {X : Type 0} (p q : X → Bool) (x : X) (xs : List X) → total (when p one) xs ≤ 1 → q x ≡ false → find p xs ≡ Some x → list_any (λ y. p y && q y) xs ≡ false
one_fails p q x [] u f h = cc
one_fails p q x (y ∷ xs) u f h = grind (arith, one_fails p q x xs, none_both p q xs)

-- sums over a list in which at most one element passes, after an edit of that element

-- if no element passes the test, another weight for elements that pass leaves the sum as it is
unchanged : {X : Type 0} (p : X → Bool) (w v : X → ℕ) → (xs : List X) → total (when p one) xs ≡ 0 → total w xs ≡ total (λ x. cond (p x) (v x) (w x)) xs
unchanged p w v [] h = refl
unchanged p w v (x ∷ xs) h = grind (arith, unchanged p w v xs)

-- the sum over a list after the only element that passes is changed
pub total_changed : {X : Type 0} (p : X → Bool) (g : X → X) (w : X → ℕ) (xs : List X) → total (when p one) xs ≤ 1 → total w (change_first p g xs) ≡ total (λ x. cond (p x) (w (g x)) (w x)) xs
total_changed p g w [] u = refl
total_changed p g w (x ∷ xs) u = grind (arith, total_changed p g w xs, unchanged p w (λ x. w (g x)) xs)

-- the sum over a list after the only element that passes is taken out
pub total_removed : {X : Type 0} (p : X → Bool) (w : X → ℕ) (xs : List X) → total (when p one) xs ≤ 1 → total w (remove_first p xs) ≡ total (λ x. cond (p x) 0 (w x)) xs
total_removed p w [] u = refl
total_removed p w (x ∷ xs) u = grind (arith, total_removed p w xs, unchanged p w (λ x. 0) xs)

-- where none passes, those that pass weigh nothing
none_weigh : {X : Type 0} (p : X → Bool) (w : X → ℕ) (xs : List X) → total (when p one) xs ≡ 0 → total (when p w) xs ≡ 0
none_weigh p w [] h = refl
none_weigh p w (x ∷ xs) h = grind (arith, none_weigh p w xs)

-- if at most one element passes, those that pass weigh as much as the one that is found
pub total_found : {X : Type 0} (p : X → Bool) (w : X → ℕ) (y : X) (xs : List X) → total (when p one) xs ≤ 1 → find p xs ≡ Some y → total (when p w) xs ≡ w y
total_found p w y [] u h = cc
total_found p w y (x ∷ xs) u h = grind (arith, total_found p w y xs, none_weigh p w xs)
