-- How many elements of a list pass a test.
use Rattle.std.proofs.Common.{◌≡◌, ℕ, zero, suc, ◌+◌, ◌*◌, ◌≤◌, Bool, true, false, ◌&&◌, List, [], ◌∷◌, ◌++◌, cond, filter, length, replicate, refl, ap, arith}
use Rattle.sched_report.specs.ReportText.{how_many}
use Rattle.mc_model.proofs.Lists.{Each, filter_ext, filter_none, filter-filter}

-- the number of a test: 1 if it passes, otherwise 0
abbrev pub one : Bool → ℕ
one b = cond b 1 0

pub one-le : (b : Bool) → one b ≤ 1
one-le b = grind arith

pub how_many-cons : {X : Type 0} (p : X → Bool) → (x : X) (xs : List X) → how_many p (x ∷ xs) ≡ one (p x) + how_many p xs
how_many-cons p x xs = elim (p x) as (λ b. length (cond b (x ∷ filter p xs) (filter p xs)) ≡ one b + how_many p xs) [ true ↦ omega arith | false ↦ omega arith ]

-- n copies of an element before a list add n or nothing
pub how_many-replicate : {X : Type 0} (p : X → Bool) (x : X) → (n : ℕ) (xs : List X) → how_many p (replicate n x ++ xs) ≡ n * one (p x) + how_many p xs
how_many-replicate p x zero xs = omega arith
how_many-replicate p x (suc n) xs = omega (arith, how_many-replicate p x n xs, how_many-cons p x (replicate n x ++ xs))

-- tests that agree on each element are passed by as many
pub how_many_same : {X : Type 0} (p q : X → Bool) → (xs : List X) → Each (λ x. p x ≡ q x) xs → how_many p xs ≡ how_many q xs
how_many_same p q xs h = ap length (filter_ext p q xs h)

-- if no element passes a test, none is counted
pub how_many_none : {X : Type 0} (p : X → Bool) → (xs : List X) → Each (λ x. p x ≡ false) xs → how_many p xs ≡ 0
how_many_none p xs h = ap length (filter_none p xs h)

-- if two tests count each element as often as two others, they count as many in all
pub how_many_both : {X : Type 0} (p q r s : X → Bool) → (xs : List X) → Each (λ x. one (p x) + one (q x) ≡ one (r x) + one (s x)) xs → how_many p xs + how_many q xs ≡ how_many r xs + how_many s xs
how_many_both p q r s [] h = refl
how_many_both p q r s (x ∷ xs) h =
    omega (arith, how_many_both p q r s xs h.1, h.0, how_many-cons p x xs, how_many-cons q x xs, how_many-cons r x xs, how_many-cons s x xs)

-- counting what another test keeps is counting by both tests
pub how_many-filter : {X : Type 0} (p q : X → Bool) → (xs : List X) → how_many p (filter q xs) ≡ how_many (λ x. q x && p x) xs
how_many-filter p q xs = ap length (filter-filter p q xs)

pub how_many-le : {X : Type 0} (p : X → Bool) → (xs : List X) → how_many p xs ≤ length xs
how_many-le p [] = omega arith
how_many-le p (x ∷ xs) = omega (arith, how_many-le p xs, one-le (p x), how_many-cons p x xs)

-- of the elements that another test keeps no more pass than of all elements
pub how_many-kept : {X : Type 0} (p q : X → Bool) → (xs : List X) → how_many p (filter q xs) ≤ how_many p xs
how_many-kept p q [] = omega arith
how_many-kept p q (x ∷ xs) = elim (q x) as (λ b. how_many p (cond b (x ∷ filter q xs) (filter q xs)) ≤ how_many p (x ∷ xs)) [
  | true ↦ omega (arith, how_many-kept p q xs, how_many-cons p x xs, how_many-cons p x (filter q xs))
  | false ↦ omega (arith, how_many-kept p q xs, how_many-cons p x xs)
]
