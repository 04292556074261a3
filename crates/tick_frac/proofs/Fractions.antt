-- Laws of fractions in lowest terms.
use Rattle.std.proofs.Common.{◌≡◌, ℕ, zero, suc, ◌*◌, ◌/◌, ◌<◌, refl, sym, ◌∙◌, ap, arith}
use Rattle.std.proofs.Math.Nat.{mul_assoc, mul_left_comm, mul-div_cancel', mul-div-mul_left}
use Rattle.tick_frac.specs.Numbers.{gcd}
use Rattle.tick_frac.specs.Fraction.{lowest, IsLowest}
use Rattle.tick_frac.proofs.Numbers.{gcd-IsGcd, gcd_scaled, gcd_pos_second}

-- the numerator is the lowest one times the greatest common divisor of numerator and denominator
pub whole_num : (num den : ℕ) → gcd num den * (lowest num den).num ≡ num
unfolding lowest
whole_num num den = mul-div_cancel' (gcd num den) ((gcd-IsGcd num den).0)

pub whole_den : (num den : ℕ) → gcd num den * (lowest num den).den ≡ den
unfolding lowest
whole_den num den = mul-div_cancel' (gcd num den) ((gcd-IsGcd num den).1)

pub lowest-scaled : (k num den : ℕ) → 0 < k → lowest (k * num) (k * den) ≡ lowest num den
unfolding lowest
lowest-scaled k num den h =
    let n : k * num / gcd (k * num) (k * den) ≡ num / gcd num den = ap (λ g. k * num / g) (gcd_scaled k num den h) ∙ mul-div-mul_left num (gcd num den) h in
    let d : k * den / gcd (k * num) (k * den) ≡ den / gcd num den = ap (λ g. k * den / g) (gcd_scaled k num den h) ∙ mul-div-mul_left den (gcd num den) h in
    cc

-- a fraction equals its lowest terms: num/den and lowest/lowest have equal cross products
pub lowest-equal : (num den : ℕ) → (lowest num den).num * den ≡ num * (lowest num den).den
lowest-equal num den =
    let n : ℕ = (lowest num den).num in
    let d : ℕ = (lowest num den).den in
    let g : ℕ = gcd num den in
    let left : n * den ≡ n * (g * d) = ap (λ z. n * z) (sym (whole_den num den)) in
    let right : num * d ≡ (g * n) * d = ap (λ z. z * d) (sym (whole_num num den)) in
    let turned : n * (g * d) ≡ (g * n) * d = mul_left_comm n g d ∙ sym (mul_assoc g n d) in
    left ∙ turned ∙ sym right

one_of : (g x : ℕ) → 0 < g → g * x ≡ g → x ≡ 1
one_of g zero h e = absurd (omega arith)
one_of g (suc zero) h e = refl
one_of (suc g) (suc (suc x)) h e = absurd (omega arith)
one_of zero (suc (suc x)) h e = absurd (omega arith)

some_den : (g d den : ℕ) → g * d ≡ den → 0 < den → 0 < d
some_den g zero den e h = absurd (omega arith)
some_den g (suc d) den e h = omega arith

pub IsLowest-lowest : (num den : ℕ) → 0 < den → IsLowest (lowest num den)
IsLowest-lowest num den h =
    let n : ℕ = (lowest num den).num in
    let d : ℕ = (lowest num den).den in
    let g : ℕ = gcd num den in
    let above : 0 < g = gcd_pos_second num den h in
    let scaled : g * gcd n d ≡ g = sym (gcd_scaled g n d above) ∙ ap (λ z. gcd z (g * d)) (whole_num num den) ∙ ap (λ z. gcd num z) (whole_den num den) in
    record { den = some_den g d den (whole_den num den) h; coprime = one_of g (gcd n d) above scaled }
