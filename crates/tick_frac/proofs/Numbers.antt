-- Laws of the greatest common divisor and of fractions.
use Rattle.std.proofs.Common.{◌≡◌, ℕ, zero, suc, ◌-◌, ◌*◌, ◌/◌, ◌%◌, ◌<◌, inl, inr, refl, sym, ◌∙◌, ap, arith, nat_le, nat_lt, le-leb}
use Rattle.std.specs.Int.{IsGcd}
use Rattle.std.proofs.lemmas.Bool.{lt-leb}
use Rattle.std.proofs.lemmas.Bool.Decides.{leb_tells}
use Rattle.std.proofs.lemmas.Nat.Gcd.{IsGcd-from_zero, IsGcd-from_mod, same_from_IsGcd}
use Rattle.std.proofs.Math.Nat.{mul-sub, mul_assoc, mul-div-mul_left, mod-eq-sub-mul-div, pos_of_dvd_of_pos, mul-le-mul_left, mul-lt-mul_of_pos_left}
use Rattle.tick_frac.specs.Numbers.{gcd_steps, gcd}

steps-IsGcd : (n a b : ℕ) → b < n → IsGcd a b (gcd_steps n a b)
unfolding gcd_steps
steps-IsGcd zero a b h = absurd (omega arith)
steps-IsGcd (suc n) a zero h = IsGcd-from_zero a zero refl
steps-IsGcd (suc n) a (suc c) h = IsGcd-from_mod a (suc c) _ (steps-IsGcd n (suc c) (a % suc c) (omega arith))

pub gcd-IsGcd : (a b : ℕ) → IsGcd a b (gcd a b)
unfolding gcd
gcd-IsGcd a b = steps-IsGcd (suc b) a b (omega arith)

pub gcd_from_IsGcd : (a b g : ℕ) → IsGcd a b g → g ≡ gcd a b
gcd_from_IsGcd a b g h = same_from_IsGcd a b g (gcd a b) h (gcd-IsGcd a b)

pub gcd_pos_first : (a b : ℕ) → 0 < a → 0 < gcd a b
gcd_pos_first a b h = pos_of_dvd_of_pos ((gcd-IsGcd a b).0) h

pub gcd_pos_second : (a b : ℕ) → 0 < b → 0 < gcd a b
gcd_pos_second a b h = pos_of_dvd_of_pos ((gcd-IsGcd a b).1) h

mod_scaled : (k x y : ℕ) → 0 < k → (k * x) % (k * y) ≡ k * (x % y)
mod_scaled k x y h =
    mod-eq-sub-mul-div (k * x) (k * y) ∙ ap (λ d. k * x - k * y * d) (mul-div-mul_left x y h) ∙ ap (λ z. k * x - z) (mul_assoc k y (x / y))
    ∙ sym (mul-sub k x (y * (x / y))) ∙ ap (λ z. k * z) (sym (mod-eq-sub-mul-div x y))

next_step : (m a z : ℕ) → 0 < z → gcd_steps (suc m) a z ≡ gcd_steps m z (a % z)
unfolding gcd_steps
next_step m a zero h = absurd (omega arith)
next_step m a (suc c) h = refl

last_step : (m a z : ℕ) → z ≡ 0 → gcd_steps (suc m) a z ≡ a
unfolding gcd_steps
last_step m a zero h = refl
last_step m a (suc c) h = absurd (omega arith)

steps_scaled : (n m k x y : ℕ) → 0 < k → y < n → k * y < m → gcd_steps m (k * x) (k * y) ≡ k * gcd_steps n x y
steps_scaled zero m k x y p few more = absurd (omega arith)
steps_scaled (suc n) zero k x y p few more = absurd (omega arith)
steps_scaled (suc n) (suc m) k x zero p few more = last_step m (k * x) (k * zero) (omega arith) ∙ ap (λ g. k * g) (sym (last_step n x zero refl))
steps_scaled (suc n) (suc m) k x (suc c) p few more =
    let bigger : k * (x % suc c) < k * suc c = mul-lt-mul_of_pos_left (omega arith) p in
    let some : 0 < k * suc c = omega arith in
    next_step m (k * x) (k * suc c) some ∙ ap (λ z. gcd_steps m (k * suc c) z) (mod_scaled k x (suc c) p)
    ∙ steps_scaled n m k (suc c) (x % suc c) p (omega arith) (omega arith) ∙ ap (λ g. k * g) (sym (next_step n x (suc c) (omega arith)))

pub gcd_scaled : (k x y : ℕ) → 0 < k → gcd (k * x) (k * y) ≡ k * gcd x y
unfolding gcd
gcd_scaled k x y h = steps_scaled (suc y) (suc (k * y)) k x y h (omega arith) (omega arith)

-- comparing two numbers is comparing their multiples by the same number
pub le_scaled : (k x y : ℕ) → 0 < k → nat_le (k * x) (k * y) ≡ nat_le x y
le_scaled k x y h =
    elim (leb_tells x y) [
      | inl t ↦ le-leb (k * x) (k * y) (mul-le-mul_left k (t.1)) ∙ sym (t.0)
      | inr t ↦ lt-leb (k * x) (k * y) (mul-lt-mul_of_pos_left (t.1) h) ∙ sym (t.0)
    ]

pub lt_scaled : (k x y : ℕ) → 0 < k → nat_lt (k * x) (k * y) ≡ nat_lt x y
lt_scaled k x y h =
    elim (leb_tells (suc x) y) [
      | inl t ↦ le-leb (suc (k * x)) (k * y) (mul-lt-mul_of_pos_left (t.1) h) ∙ sym (t.0)
      | inr t ↦ lt-leb (suc (k * x)) (k * y) (omega (arith, mul-le-mul_left {m = y} {n = x} k (omega arith))) ∙ sym (t.0)
    ]
