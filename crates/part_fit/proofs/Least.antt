-- The least number of a range that passes a test.
use Rattle.std.proofs.Common.{◌≡◌, ℕ, zero, suc, ◌+◌, ◌<◌, ◌≤◌, inl, inr, Bool, length, true, false, Some, None, refl, ap, sym, ◌∙◌, arith, get_or}
use Rattle.std.specs.Prelude.{find}
use Rattle.std.specs.List.{range_with_len}
use Rattle.std.proofs.lemmas.Bool.{cases_Bool}
use Rattle.std.proofs.lemmas.List.FromFn.{length-range_with_len, get_or-range_with_len}
use Rattle.std.proofs.lemmas.List.Recursion.{found_at, found_nowhere}

-- the numbers from 1 on, by their indices
number_at : (m k : ℕ) → k < m → get_or (range_with_len 1 m) k 0 ≡ suc k
number_at m k inside = get_or-range_with_len 1 m k 0 inside ∙ omega arith

-- if no number passes, none is found
pub find-none : (p : ℕ → Bool) (m : ℕ) → ((k : ℕ) → k < m → p (suc k) ≡ false) → find p (range_with_len 1 m) ≡ None
find-none p m fails =
    found_nowhere (find p) p Some None refl (λ _ _. refl) (range_with_len 1 m) 0
    (λ k inside. let within : k < m = omega (arith, length-range_with_len 1 m) in rw (number_at m k within) (fails k within))

-- if a number passes and none before it does, it is found
pub find-some : (p : ℕ → Bool) (m k : ℕ) → k < m → ((j : ℕ) → j < k → p (suc j) ≡ false) → p (suc k) ≡ true → find p (range_with_len 1 m) ≡ Some (suc k)
find-some p m k inside fails passes =
    let before : (j : ℕ) → j < k → p (get_or (range_with_len 1 m) j 0) ≡ false = λ j below. rw (number_at m j (omega arith)) (fails j below) in
    let within : k < length (range_with_len 1 m) = omega (arith, length-range_with_len 1 m) in
    found_at (find p) p Some None refl (λ _ _. refl) (range_with_len 1 m) k 0 within before (rw (number_at m k inside) passes) ∙ ap Some (number_at m k inside)

-- a number that is found is one of the range, and passes
pub find-passes : (p : ℕ → Bool) (more n k : ℕ) → find p (range_with_len n more) ≡ Some k → (n ≤ k) × (k < n + more) × (p k ≡ true)
find-passes p zero n k h = absurd (cc h)
find-passes p (suc more) n k h =
    elim (cases_Bool (p n)) [
      | inl here ↦ (let same : n ≡ k = cc (rw here at h) in (omega arith, omega arith, ap p (sym same) ∙ here))
      | inr fails ↦ (let later = find-passes p more (n + 1) k (rw fails at h) in (omega (arith, later.0), omega (arith, later.1), later.2))
    ]
