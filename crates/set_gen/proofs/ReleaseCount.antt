-- The number of releases below a boundary.
use Rattle.std.proofs.Common.{◌≡◌, ℕ, zero, suc, ◌+◌, ◌-◌, ◌*◌, ◌/◌, ◌%◌, ◌<◌, ◌≤◌, inl, inr, ◌==◌, cond, filter, List, length, slice_index, sym, ◌∙◌, arith, length-append}
use Rattle.std.specs.List.{range_with_len}
use Rattle.std.proofs.lemmas.Bool.Decides.{eqb_tells}
use Rattle.std.proofs.lemmas.List.{length-map}
use Rattle.std.proofs.lemmas.List.FromFn.{length-range_with_len}
use Rattle.std.proofs.lemmas.Nat.Gcd.{dvd_of_mod-eq-zero}
use Rattle.std.proofs.Math.Nat.{mul-div_cancel', mul-le-mul_right, lt_of_mul-lt-mul_right}
use Rattle.mc_model.specs.Sums.{total}
use Rattle.mc_model.proofs.Sums.{total-add}
use Rattle.set_gen.specs.GeneratedWork.{is_released, releases_at, releases_below}
use Rattle.mc_model.proofs.Ranges.{each-range, total-zero, total-most, length-filter}

-- how many multiples of a gap are below r
times : ℕ → ℕ → ℕ
times gap zero = 0
times gap (suc r) = times gap r + cond (r % gap == 0) 1 0

-- multiples of a gap below r, a gap each, reach at most a gap past r
times-gap : (gap r : ℕ) → 1 ≤ gap → times gap r * gap < r + gap
unfolding times
times-gap gap zero some = omega arith
times-gap gap (suc r) some =
    let before : times gap r * gap < r + gap = times-gap gap r some in
    elim (eqb_tells (r % gap) 0) [
      | inl t ↦
          let whole : gap * (r / gap) ≡ r = mul-div_cancel' gap (dvd_of_mod-eq-zero gap t.1) in
          let most : times gap r < r / gap + 1 = lt_of_mul-lt-mul_right gap (omega arith) in
          let below : times gap r * gap ≤ (r / gap) * gap = mul-le-mul_right gap (omega arith) in
          rw (t.0) (omega arith)
      | inr t ↦ rw (t.0) (omega arith)
    ]

times-few : (gap r : ℕ) → 200 ≤ gap → r ≤ 1000000 → times gap r ≤ 5000
times-few gap r some most =
    let near : times gap r * gap < r + gap = times-gap gap r (omega arith) in
    let few : times gap r < 5001 = lt_of_mul-lt-mul_right gap (omega arith) in
    omega arith

one_boundary : (gaps : List ℕ) (r : ℕ) → length (releases_at gaps r) ≡ total (λ i. cond (r % slice_index gaps (i - 1) == 0) 1 0) (range_with_len 1 (length gaps))
unfolding is_released
one_boundary gaps r = length-map (filter (is_released gaps r) (range_with_len 1 (length gaps))) (λ i. record { task = i; at = r }) ∙ length-filter (is_released gaps r) (range_with_len 1 (length gaps))

below : (gaps : List ℕ) (r : ℕ) → length (releases_below gaps r) ≡ total (λ i. times (slice_index gaps (i - 1)) r) (range_with_len 1 (length gaps))
unfolding times
below gaps zero = sym (total-zero (range_with_len 1 (length gaps)))
below gaps (suc r) =
    let parts = total-add (λ i. times (slice_index gaps (i - 1)) r) (λ i. cond (r % slice_index gaps (i - 1) == 0) 1 0) (range_with_len 1 (length gaps)) in
    omega (arith, length-append (releases_below gaps r) (releases_at gaps r), below gaps r, one_boundary gaps r, parts)

-- with gaps of at least 200 ticks, each task has at most 5,000 releases below 1,000,000 ticks
pub few_releases : (gaps : List ℕ) (r : ℕ) → ((i : ℕ) → 1 ≤ i → i ≤ length gaps → 200 ≤ slice_index gaps (i - 1)) → length gaps ≤ 32 → r ≤ 1000000 → length (releases_below gaps r) ≤ 1000000
few_releases gaps r wide few most =
    let each : total (λ i. times (slice_index gaps (i - 1)) r) (range_with_len 1 (length gaps)) ≤ 5000 * length (range_with_len 1 (length gaps)) =
    total-most (λ i. times (slice_index gaps (i - 1)) r) 5000 (range_with_len 1 (length gaps))
    (each-range (λ i. times (slice_index gaps (i - 1)) r ≤ 5000) 1 (length gaps) (λ i first last. times-few (slice_index gaps (i - 1)) r (wide i first (omega arith)) most)) in
    omega (arith, below gaps r, length-range_with_len 1 (length gaps))
