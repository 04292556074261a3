-- Lists over consecutive numbers.
use Rattle.std.proofs.Common.{◌≡◌, ℕ, zero, suc, ◌+◌, ◌*◌, ◌<◌, ◌≤◌, Bool, true, false, cond, filter, List, [], ◌∷◌, ◌++◌, map, length, Some, slice_get, refl, ap, ◌∙◌, arith}
use Rattle.std.specs.List.{range_with_len, AllByRecursion}
use Rattle.mc_model.specs.Sums.{total}

-- a property of f at each number of the range is one of each element that f makes
pub each-map-range : {X : Type 0} (P : X → Type 0) (f : ℕ → X) (a n : ℕ) → ((i : ℕ) → a ≤ i → i < a + n → P (f i)) → AllByRecursion P (map f (range_with_len a n))
each-map-range P f a zero h = tt
each-map-range P f a (suc n) h = (h a (omega arith) (omega arith), each-map-range P f (a + 1) n (λ i first last. h i (omega arith) (omega arith)))

-- a property of each number of the range is one of each element
pub each-range : (P : ℕ → Type 0) (a n : ℕ) → ((i : ℕ) → a ≤ i → i < a + n → P i) → AllByRecursion P (range_with_len a n)
each-range P a zero h = tt
each-range P a (suc n) h = (h a (omega arith) (omega arith), each-range P (a + 1) n (λ i first last. h i (omega arith) (omega arith)))

-- the element at an index of a list over consecutive numbers
pub slice_get-map-range : {X : Type 0} (f : ℕ → X) (a n i : ℕ) → i < n → slice_get (map f (range_with_len a n)) i ≡ Some (f (a + i))
slice_get-map-range f a zero i h = absurd (omega arith)
slice_get-map-range f a (suc n) zero h = let e : a ≡ a + 0 = omega arith in ap (λ k. Some (f k)) e
slice_get-map-range f a (suc n) (suc i) h =
    let e : (a + 1) + i ≡ a + suc i = omega arith in
    slice_get-map-range f (a + 1) n i (omega arith) ∙ ap (λ k. Some (f k)) e

-- a property of f at each element is one of each element that f makes
pub each-map : {X Y : Type 0} (P : Y → Type 0) (f : X → Y) (xs : List X) → AllByRecursion (λ x. P (f x)) xs → AllByRecursion P (map f xs)
each-map P f [] h = tt
each-map P f (x ∷ xs) h = (h.0, each-map P f xs h.1)

-- a sum of zeros
pub total-zero : {X : Type 0} (xs : List X) → total (λ x. 0) xs ≡ 0
total-zero [] = refl
total-zero (x ∷ xs) = let more : total (λ y. 0) xs ≡ 0 = total-zero xs in omega arith

-- a sum of numbers of at most c is at most c times the length
pub total-most : {X : Type 0} (f : X → ℕ) (c : ℕ) (xs : List X) → AllByRecursion (λ x. f x ≤ c) xs → total f xs ≤ c * length xs
total-most f c [] h = omega arith
total-most f c (x ∷ xs) h =
    let here : f x ≤ c = h.0 in
    let more : total f xs ≤ c * length xs = total-most f c xs h.1 in
    let one : length (x ∷ xs) ≡ length xs + 1 = omega arith in
    let all : c * length (x ∷ xs) ≡ c * (length xs + 1) = ap (λ z. c * z) one in
    omega arith

-- the length of what a filter keeps is how many elements pass its test
pub length-filter : {X : Type 0} (p : X → Bool) (xs : List X) → length (filter p xs) ≡ total (λ x. cond (p x) 1 0) xs
length-filter p [] = refl
length-filter p (x ∷ xs) =
    let more : length (filter p xs) ≡ total (λ y. cond (p y) 1 0) xs = length-filter p xs in
    elim (p x) as (λ b. length (cond b (x ∷ filter p xs) (filter p xs)) ≡ cond b 1 0 + total (λ y. cond (p y) 1 0) xs)
    [ true ↦ omega arith | false ↦ omega arith ]

-- a range with one more number at its end
range-last : (a n j : ℕ) → a + n ≡ j → range_with_len a (suc n) ≡ range_with_len a n ++ j ∷ []
range-last a zero j e = let same : a ≡ j = omega arith in ap (λ k. k ∷ []) same
range-last a (suc n) j e = ap (λ l. a ∷ l) (range-last (a + 1) n j (omega arith))

pub range-more : (a n j : ℕ) → a + n ≡ j → range_with_len a (n + 1) ≡ range_with_len a n ++ j ∷ []
range-more a n j e = let on : n + 1 ≡ suc n = omega arith in ap (range_with_len a) on ∙ range-last a n j e
