-- What two lists share that have the same sums.
use Rattle.std.proofs.Common.{[], ◌≡◌, ℕ, Bool, true, ◌&&◌, List, ◌∷◌, filter, map, refl, sym, ap, ◌∙◌, arith, ◌==◌, nat_lt}
use Rattle.std.proofs.lemmas.Bool.Decides.{nat_tests}
use Rattle.std.specs.List.{list_any, list_all}
use Rattle.mc_model.specs.Sums.{total, when}
use Rattle.mc_model.proofs.Sums.{one, other}

-- some element passes where those that pass are counted above 0
pub any_total : {X : Type 0} (p : X → Bool) → (xs : List X) → list_any p xs ≡ nat_lt 0 (total (when p one) xs)
any_total p [] = grind (arith, nat_tests)
any_total p (x ∷ xs) = grind (arith, nat_tests, any_total p xs)

-- each element passes where those that fail are none
pub all_total : {X : Type 0} (p : X → Bool) → (xs : List X) → list_all p xs ≡ (total (when (other p) one) xs == 0)
all_total p [] = grind (arith, nat_tests)
all_total p (x ∷ xs) = grind (arith, nat_tests, all_total p xs)

-- each element of a list passes a test that all values pass
pub list_all-true : {X : Type 0} (p : X → Bool) → ((x : X) → p x ≡ true) → (xs : List X) → list_all p xs ≡ true
list_all-true p h [] = refl
list_all-true p h (x ∷ xs) = rw (h x, list_all-true p h xs) refl

-- some element of a mapped list passes, by tests that agree
pub list_any-map : {X Y : Type 0} (p : Y → Bool) (f : X → Y) (q : X → Bool) → ((x : X) → p (f x) ≡ q x) → (xs : List X) → list_any p (map f xs) ≡ list_any q xs
list_any-map p f q h [] = refl
list_any-map p f q h (x ∷ xs) = rw (h x, list_any-map p f q h xs) refl

-- each element of a mapped list passes
pub list_all-map : {X Y : Type 0} (p : Y → Bool) (f : X → Y) → (xs : List X) → list_all p (map f xs) ≡ list_all (λ x. p (f x)) xs
list_all-map p f [] = refl
list_all-map p f (x ∷ xs) = ap (λ b. p (f x) && b) (list_all-map p f xs)

-- the part of a mapped list that passes a test
pub filter-map : {X Y : Type 0} (p : Y → Bool) (f : X → Y) → (xs : List X) → filter p (map f xs) ≡ map f (filter (λ x. p (f x)) xs)
filter-map p f [] = refl
filter-map p f (x ∷ xs) = grind (arith, filter-map p f xs)

-- xs has the elements that f gives of ys
abbrev pub SameAs : {X Y : Type 0} → List X → (Y → X) → List Y → Type 0
SameAs {X} {Y} xs f ys = (w : X → ℕ) → total w xs ≡ total (λ y. w (f y)) ys

-- a test passes some element of xs exactly if it passes some element that f gives of ys
pub same_any : {X Y : Type 0} (xs : List X) (f : Y → X) (ys : List Y) → SameAs xs f ys → (p : X → Bool) → list_any p xs ≡ list_any (λ y. p (f y)) ys
same_any xs f ys same p = any_total p xs ∙ (ap (nat_lt 0) (same (when p one)) ∙ sym (any_total (λ y. p (f y)) ys))

-- a test passes all elements of xs exactly if it passes all that f gives of ys
pub same_all : {X Y : Type 0} (xs : List X) (f : Y → X) (ys : List Y) → SameAs xs f ys → (p : X → Bool) → list_all p xs ≡ list_all (λ y. p (f y)) ys
same_all xs f ys same p = all_total p xs ∙ (ap (λ n. n == 0) (same (when (other p) one)) ∙ sym (all_total (λ y. p (f y)) ys))
