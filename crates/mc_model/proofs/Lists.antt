-- Properties of each element of a list, filters, the first elements in reverse order, and what is read after a write.
use Rattle.std.proofs.Common.{◌≡◌, ◌≢◌, Bool, true, false, ◌&&◌, ℕ, zero, suc, ◌+◌, ◌<◌, List, [], ◌∷◌, ◌++◌, Some, cond, filter, take, get_or, set, slice_get, length, reverse, refl, sym, ap, ◌∙◌, subst, arith}
use Rattle.std.specs.List.{AllByRecursion}
use Rattle.std.proofs.lemmas.List.{reverse-append, take_more}

-- each element of the list has the property
abbrev pub Each : {X : Type 0} → (X → Type 0) → List X → Type 0
Each P xs = AllByRecursion P xs

-- a property of each element that follows from another one
pub Each-map : {X : Type 0} {P Q : X → Type 0} → ((x : X) → P x → Q x) → (xs : List X) → Each P xs → Each Q xs
Each-map f [] h = tt
Each-map f (x ∷ xs) h = (f x h.0, Each-map f xs h.1)

-- a property of each element that follows from two others
pub Each-both : {X : Type 0} {P Q R : X → Type 0} → ((x : X) → P x → Q x → R x) → (xs : List X) → Each P xs → Each Q xs → Each R xs
Each-both f [] h k = tt
Each-both f (x ∷ xs) h k = (f x h.0 k.0, Each-both f xs h.1 k.1)

-- a property of all values is one of each element
pub Each-all : {X : Type 0} {P : X → Type 0} → ((x : X) → P x) → (xs : List X) → Each P xs
Each-all f [] = tt
Each-all f (x ∷ xs) = (f x, Each-all f xs)

-- a property of each element is one of each that a filter keeps
pub Each-filter : {X : Type 0} (P : X → Type 0) (p : X → Bool) → (xs : List X) → Each P xs → Each P (filter p xs)
Each-filter P p [] h = tt
Each-filter P p (x ∷ xs) h =
    elim (p x) as (λ b. Each P (cond b (x ∷ filter p xs) (filter p xs)))
    [ true ↦ (h.0, Each-filter P p xs h.1) | false ↦ Each-filter P p xs h.1 ]

-- what a filter keeps has a property that follows from its test
pub Each-filter_if : {X : Type 0} (P : X → Type 0) (p : X → Bool) → (xs : List X) → Each (λ x. p x ≡ true → P x) xs → Each P (filter p xs)
Each-filter_if P p [] h = tt
Each-filter_if P p (x ∷ xs) h = go (Each-filter_if P p xs h.1) (p x) refl
  where
    go : Each P (filter p xs) → (b : Bool) → p x ≡ b → Each P (cond b (x ∷ filter p xs) (filter p xs))
    go ih true m = (h.0 m, ih)
    go ih false m = ih

-- tests that agree on each element keep the same elements
pub filter_ext : {X : Type 0} (p q : X → Bool) → (xs : List X) → Each (λ x. p x ≡ q x) xs → filter p xs ≡ filter q xs
filter_ext p q [] h = refl
filter_ext p q (x ∷ xs) h = rw h.0 (ap (λ ys. cond (q x) (x ∷ ys) ys) (filter_ext p q xs h.1))

-- a filter after a filter is one filter by both tests
pub filter-filter : {X : Type 0} (p q : X → Bool) → (xs : List X) → filter p (filter q xs) ≡ filter (λ x. q x && p x) xs
filter-filter p q [] = refl
filter-filter p q (x ∷ xs) = go (filter-filter p q xs) (q x) refl
  where
    go : filter p (filter q xs) ≡ filter (λ x. q x && p x) xs → (b : Bool) → q x ≡ b → filter p (cond b (x ∷ filter q xs) (filter q xs)) ≡ cond (b && p x) (x ∷ filter (λ x. q x && p x) xs) (filter (λ x. q x && p x) xs)
    go ih true m = ap (λ ys. cond (p x) (x ∷ ys) ys) ih
    go ih false m = ih

-- if no element passes the test, a filter leaves nothing
pub filter_none : {X : Type 0} (p : X → Bool) → (xs : List X) → Each (λ x. p x ≡ false) xs → filter p xs ≡ []
filter_none p [] h = refl
filter_none p (x ∷ xs) h = rw h.0 (filter_none p xs h.1)

-- a property of each element of two lists is one of each element of the joined list
pub Each-append : {X : Type 0} (P : X → Type 0) (xs ys : List X) → Each P xs → Each P ys → Each P (xs ++ ys)
Each-append P [] ys h k = k
Each-append P (x ∷ xs) ys h k = (h.0, Each-append P xs ys h.1 k)

-- a property of each element is one of each element of the reversed list
pub Each-reverse : {X : Type 0} (P : X → Type 0) (xs : List X) → Each P xs → Each P (reverse xs)
Each-reverse P [] h = tt
Each-reverse P (x ∷ xs) h = subst (Each P) (sym (reverse-append (x ∷ []) xs)) (Each-append P (reverse xs) (x ∷ []) (Each-reverse P xs h.1) (h.0, tt))

-- the first i + 1 elements in reverse order are element i, then the first i in reverse order
pub reverse-take_more : {X : Type 0} (xs : List X) (i : ℕ) (d : X) → i < length xs → reverse (take (i + 1) xs) ≡ get_or xs i d ∷ reverse (take i xs)
reverse-take_more xs i d h = ap reverse (take_more xs i d h) ∙ reverse-append (take i xs) (get_or xs i d ∷ [])

-- what is written at an index is read there
pub set_here : {X : Type 0} (xs : List X) (i : ℕ) (v : X) → i < length xs → slice_get (set xs i v) i ≡ Some v
set_here [] i v h = absurd (omega arith)
set_here (x ∷ xs) zero v h = refl
set_here (x ∷ xs) (suc i) v h = set_here xs i v (omega arith)

-- a write at one index leaves the elements at other indices as they were
pub set_other : {X : Type 0} (xs : List X) (i k : ℕ) (v : X) → k ≢ i → slice_get (set xs i v) k ≡ slice_get xs k
set_other [] i k v h = refl
set_other (x ∷ xs) zero zero v h = absurd (h refl)
set_other (x ∷ xs) zero (suc k) v h = refl
set_other (x ∷ xs) (suc i) zero v h = refl
set_other (x ∷ xs) (suc i) (suc k) v h = set_other xs i k v (λ e. h (ap (λ n. suc n) e))
