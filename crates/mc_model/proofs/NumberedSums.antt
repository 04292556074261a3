-- Sums over the elements of a list, such as tasks, by their numbers.
use Rattle.std.proofs.Common.{◌≡◌, ℕ, suc, ◌+◌, ◌<◌, ◌≤◌, ◌≢◌, Bool, true, false, List, [], ◌∷◌, Some, slice_get, cond, length, ◌==◌, refl, subst, arith, add-zero, eqb-true}
use Rattle.std.proofs.lemmas.Bool.Decides.{nat_tests}
use Rattle.mc_model.specs.Sums.{total}

-- the sum of d over the elements' numbers, the first of which is i
abbrev pub sum_numbered : {X : Type 0} → List X → (ℕ → ℕ) → ℕ → ℕ
sum_numbered [] d i = 0
sum_numbered (t ∷ ts) d i = d i + sum_numbered ts d (i + 1)

-- d with c more at k
abbrev pub added : (ℕ → ℕ) → ℕ → ℕ → ℕ → ℕ
added d k c i = cond (k == i) (d i + c) (d i)

-- `added` is nowhere less than d
pub added-le : (d : ℕ → ℕ) (k c i : ℕ) → d i ≤ added d k c i
added-le d k c i = elim (k == i) as (λ b. d i ≤ cond b (d i + c) (d i)) [ true ↦ omega arith | false ↦ omega arith ]

-- the sum of `added` is at least that of d
sum-added_le : {X : Type 0} (ts : List X) (d : ℕ → ℕ) (k c i : ℕ) → sum_numbered ts d i ≤ sum_numbered ts (added d k c) i
sum-added_le [] d k c i = omega arith
sum-added_le (t ∷ ts) d k c i =
    let ih : sum_numbered ts d (i + 1) ≤ sum_numbered ts (added d k c) (i + 1) = sum-added_le ts d k c (i + 1) in
    let here : d i ≤ added d k c i = added-le d k c i in
    omega (arith, here, ih)

-- the sum of `added` is c more than that of d, if number k is among the numbers
pub sum-added : {X : Type 0} (ts : List X) (d : ℕ → ℕ) (k c i : ℕ) → i ≤ k → k < i + length ts → sum_numbered ts d i + c ≤ sum_numbered ts (added d k c) i
sum-added [] d k c i a b = absurd (omega arith)
sum-added (t ∷ ts) d k c i a b = go (λ e. sum-added ts d k c (i + 1) e (omega arith)) (k == i) refl
  where
    go : (i + 1 ≤ k → sum_numbered ts d (i + 1) + c ≤ sum_numbered ts (added d k c) (i + 1)) → (b : Bool) → (k == i) ≡ b → (d i + sum_numbered ts d (i + 1)) + c ≤ cond (k == i) (d i + c) (d i) + sum_numbered ts (added d k c) (i + 1)
    go ih true m =
        let more : sum_numbered ts d (i + 1) ≤ sum_numbered ts (added d k c) (i + 1) = sum-added_le ts d k c (i + 1) in
        rw m (omega arith)
    go ih false m =
        let ne : i ≢ k = grind (arith, nat_tests) in
        let less : sum_numbered ts d (i + 1) + c ≤ sum_numbered ts (added d k c) (i + 1) = ih (omega arith) in
        rw m (omega arith)

-- a bound from above for each element is one for the sum
pub sum-below : {X : Type 0} (ts : List X) (d : ℕ → ℕ) (f : X → ℕ) (i : ℕ) → ((k : ℕ) (t : X) → slice_get ts k ≡ Some t → d (i + k) ≤ f t) → sum_numbered ts d i ≤ total f ts
sum-below [] d f i h = omega arith
sum-below (t ∷ ts) d f i h =
    let here : d i ≤ f t = rw add-zero at (h 0 t refl) in
    let rest : sum_numbered ts d (i + 1) ≤ total f ts = sum-below ts d f (i + 1) (λ k u e. subst (λ (n : ℕ). d n ≤ f u) (shift i k) (h (suc k) u e)) in
    omega (arith, here, rest)
  where
    shift : (i k : ℕ) → i + suc k ≡ (i + 1) + k
    shift i k = omega arith

-- a bound from below for each element is one for the sum
pub sum-above : {X : Type 0} (ts : List X) (d : ℕ → ℕ) (f : X → ℕ) (i : ℕ) → ((k : ℕ) (t : X) → slice_get ts k ≡ Some t → f t ≤ d (i + k)) → total f ts ≤ sum_numbered ts d i
sum-above [] d f i h = omega arith
sum-above (t ∷ ts) d f i h =
    let here : f t ≤ d i = rw add-zero at (h 0 t refl) in
    let rest : total f ts ≤ sum_numbered ts d (i + 1) = sum-above ts d f (i + 1) (λ k u e. subst (λ (n : ℕ). f u ≤ d n) (shift i k) (h (suc k) u e)) in
    omega (arith, here, rest)
  where
    shift : (i k : ℕ) → i + suc k ≡ (i + 1) + k
    shift i k = omega arith

-- adding c at a number below the first leaves the sum as it is
sum-added_before : {X : Type 0} (ts : List X) (d : ℕ → ℕ) (k c i : ℕ) → k < i → sum_numbered ts (added d k c) i ≡ sum_numbered ts d i
sum-added_before [] d k c i h = refl
sum-added_before (t ∷ ts) d k c i h =
    let other : (k == i) ≡ false = differs k i h in
    let here : added d k c i ≡ d i = rw other refl in
    let rest : sum_numbered ts (added d k c) (i + 1) ≡ sum_numbered ts d (i + 1) = sum-added_before ts d k c (i + 1) (omega arith) in
    omega (arith, here, rest)
  where
    differs : (k i : ℕ) → k < i → (k == i) ≡ false
    differs k i h = grind (arith, nat_tests)

-- adding c at one number adds at most c to the sum
pub sum-added_most : {X : Type 0} (ts : List X) (d : ℕ → ℕ) (k c i : ℕ) → sum_numbered ts (added d k c) i ≤ sum_numbered ts d i + c
sum-added_most [] d k c i = omega arith
sum-added_most (t ∷ ts) d k c i = go (sum-added_most ts d k c (i + 1)) (k == i) refl
  where
    go : sum_numbered ts (added d k c) (i + 1) ≤ sum_numbered ts d (i + 1) + c → (b : Bool) → (k == i) ≡ b → cond (k == i) (d i + c) (d i) + sum_numbered ts (added d k c) (i + 1) ≤ (d i + sum_numbered ts d (i + 1)) + c
    go ih true m =
        let e : k ≡ i = eqb-true _ _ m in
        let rest : sum_numbered ts (added d k c) (i + 1) ≡ sum_numbered ts d (i + 1) = sum-added_before ts d k c (i + 1) (omega arith) in
        rw m (omega (arith, rest))
    go ih false m = rw m (omega (arith, ih))
