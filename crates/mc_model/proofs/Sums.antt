-- Sums over lists.
use Rattle.std.proofs.Common.{[], ◌≡◌, ℕ, ◌+◌, ◌≤◌, Bool, true, false, not, List, ◌∷◌, ◌++◌, cond, filter, map, refl, ap, arith, length}
use Rattle.std.specs.List.{list_any}
use Rattle.mc_model.specs.Sums.{total, when}
use Rattle.mc_model.proofs.Lists.{Each, Each-all}

-- the sum over two joined lists
pub total-append : {X : Type 0} (f : X → ℕ) → (xs ys : List X) → total f (xs ++ ys) ≡ total f xs + total f ys
total-append f [] ys = omega arith
total-append f (x ∷ xs) ys = let ih : total f (xs ++ ys) ≡ total f xs + total f ys = total-append f xs ys in omega arith

-- the sum over a mapped list
pub total-map : {X Y : Type 0} (f : Y → ℕ) (g : X → Y) → (xs : List X) → total f (map g xs) ≡ total (λ x. f (g x)) xs
total-map f g [] = refl
total-map f g (x ∷ xs) = ap (λ n. f (g x) + n) (total-map f g xs)

-- the sum over what a filter keeps
pub total-filter : {X : Type 0} (f : X → ℕ) (p : X → Bool) → (xs : List X) → total f (filter p xs) ≡ total (when p f) xs
total-filter f p [] = refl
total-filter f p (x ∷ xs) =
    let ih : total f (filter p xs) ≡ total (when p f) xs = total-filter f p xs in
    elim (p x) as (λ b. total f (cond b (x ∷ filter p xs) (filter p xs)) ≡ cond b (f x) 0 + total (when p f) xs)
    [ true ↦ ap (λ n. f x + n) ih | false ↦ omega arith ]

-- sums of numbers that are equal at each element are equal
pub total-ext : {X : Type 0} (f g : X → ℕ) → (xs : List X) → Each (λ x. f x ≡ g x) xs → total f xs ≡ total g xs
total-ext f g [] h = refl
total-ext f g (x ∷ xs) h = let here : f x ≡ g x = h.0 in let ih : total f xs ≡ total g xs = total-ext f g xs h.1 in omega arith

-- sums of numbers that are equal at all values are equal
pub total-same : {X : Type 0} (f g : X → ℕ) → ((x : X) → f x ≡ g x) → (xs : List X) → total f xs ≡ total g xs
total-same f g h [] = refl
total-same f g h (x ∷ xs) = let here : f x ≡ g x = h x in let ih : total f xs ≡ total g xs = total-same f g h xs in omega arith

-- the sum of two numbers at each element is the sum of their sums
pub total-add : {X : Type 0} (f g : X → ℕ) → (xs : List X) → total (λ x. f x + g x) xs ≡ total f xs + total g xs
total-add f g [] = omega arith
total-add f g (x ∷ xs) = let ih : total (λ x. f x + g x) xs ≡ total f xs + total g xs = total-add f g xs in omega arith

-- a sum of lesser numbers over what a filter keeps is less
pub total-filter_less : {X : Type 0} (f g : X → ℕ) (p : X → Bool) → (xs : List X) → Each (λ x. g x ≤ f x) xs → total g (filter p xs) ≤ total f xs
total-filter_less f g p [] h = omega arith
total-filter_less f g p (x ∷ xs) h =
    let ih : total g (filter p xs) ≤ total f xs = total-filter_less f g p xs h.1 in
    let here : g x ≤ f x = h.0 in
    elim (p x) as (λ b. total g (cond b (x ∷ filter p xs) (filter p xs)) ≤ f x + total f xs)
    [ true ↦ omega arith | false ↦ omega arith ]

-- if one element loses at least one and none gains, the sum loses at least one
pub total_spend :
    {X : Type 0} (f g : X → ℕ) (p mine : X → Bool) → (xs : List X) → Each (λ x. g x ≤ f x) xs →
    Each (λ x. mine x ≡ true → g x + 1 ≤ f x) xs → list_any mine xs ≡ true → total g (filter p xs) + 1 ≤ total f xs
total_spend f g p mine [] h k e = grind arith
total_spend f g p mine (x ∷ xs) h k e = here (total_spend f g p mine xs h.1 k.1) (mine x) refl
  where
    rest : total g (filter p xs) ≤ total f xs
    rest = total-filter_less f g p xs h.1

    here : (list_any mine xs ≡ true → total g (filter p xs) + 1 ≤ total f xs) → (b : Bool) → mine x ≡ b → total g (cond (p x) (x ∷ filter p xs) (filter p xs)) + 1 ≤ f x + total f xs
    here ih true m =
        let spent : g x + 1 ≤ f x = k.0 m in
        let r : total g (filter p xs) ≤ total f xs = rest in
        elim (p x) as (λ b. total g (cond b (x ∷ filter p xs) (filter p xs)) + 1 ≤ f x + total f xs)
        [ true ↦ omega arith | false ↦ omega arith ]
    here ih false m =
        let e' : list_any mine xs ≡ true = rw m at e in
        let less : total g (filter p xs) + 1 ≤ total f xs = ih e' in
        let same : g x ≤ f x = h.0 in
        elim (p x) as (λ b. total g (cond b (x ∷ filter p xs) (filter p xs)) + 1 ≤ f x + total f xs)
        [ true ↦ omega arith | false ↦ omega arith ]

-- a sum of lesser numbers is a lesser sum
pub total-mono : {X : Type 0} (f g : X → ℕ) → (xs : List X) → Each (λ x. g x ≤ f x) xs → total g xs ≤ total f xs
total-mono f g [] h = omega arith
total-mono f g (x ∷ xs) h =
    let ih : total g xs ≤ total f xs = total-mono f g xs h.1 in
    let here : g x ≤ f x = h.0 in omega arith

-- the sum over what a filter keeps is at most the whole sum
pub less_filtered : {X : Type 0} (f : X → ℕ) (p : X → Bool) → (xs : List X) → total f (filter p xs) ≤ total f xs
less_filtered f p xs = total-filter_less f f p xs (Each-all (λ x. omega arith) xs)

-- the number 1 for each element
abbrev pub one : {X : Type 0} → X → ℕ
one x = 1

-- whether the test fails
abbrev pub other : {X : Type 0} → (X → Bool) → X → Bool
other p x = not (p x)

-- the sum of 1 over a list is its length
pub total-one : {X : Type 0} (xs : List X) → total one xs ≡ length xs
total-one [] = refl
total-one (x ∷ xs) = let ih : total one xs ≡ length xs = total-one xs in omega arith
