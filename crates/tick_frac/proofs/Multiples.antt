-- Laws of the least common multiple.
use Rattle.std.proofs.Common.{◌≡◌, ℕ, zero, suc, ◌*◌, ◌/◌, ◌<◌, sym, ◌∙◌, ap, subst, arith}
use Prim.Native.Nat.{◌∣◌}
use Rattle.std.proofs.lemmas.Nat.Gcd.{dvd-zero}
use Rattle.std.proofs.Math.Nat.{mul_left_comm, mul_comm, mul-div_cancel', dvd-mul_left, dvd-mul_right, mul-dvd-mul_left, mul-dvd-mul_right, dvd_of_mul-dvd-mul_left, zero-mul, pos_of_dvd_of_pos, mul-lt-mul_of_pos_left}
use Rattle.tick_frac.specs.Numbers.{gcd, lcm, IsLcm}
use Rattle.tick_frac.proofs.Numbers.{gcd-IsGcd, gcd_scaled, gcd_pos_first}

pub dvd-lcm_first : (a b : ℕ) → a ∣ lcm a b
unfolding lcm
dvd-lcm_first a b = dvd-mul_right a (b / gcd a b)

-- the greatest common divisor of two numbers times their least common multiple is their product
pub gcd-mul-lcm : (a b : ℕ) → gcd a b * lcm a b ≡ a * b
unfolding lcm
gcd-mul-lcm a b =
    let other : gcd a b * (b / gcd a b) ≡ b = mul-div_cancel' (gcd a b) ((gcd-IsGcd a b).1) in
    mul_left_comm (gcd a b) a (b / gcd a b) ∙ ap (λ z. a * z) other

pub dvd-lcm_second : (a b : ℕ) → b ∣ lcm a b
unfolding lcm
dvd-lcm_second a b =
    let g : ℕ = gcd a b in
    let whole : g * (a / g) ≡ a = mul-div_cancel' g ((gcd-IsGcd a b).0) in
    let turned : a * (b / g) ≡ a / g * (g * (b / g)) = ap (λ z. z * (b / g)) (sym whole) ∙ omega arith in
    let other : g * (b / g) ≡ b = mul-div_cancel' g ((gcd-IsGcd a b).1) in
    subst (λ z. b ∣ z) (sym (turned ∙ ap (λ z. a / g * z) other)) (dvd-mul_left b (a / g))

-- the least common multiple divides the product
pub lcm-dvd : (a b : ℕ) → lcm a b ∣ a * b
lcm-dvd a b = subst (λ z. lcm a b ∣ z) (gcd-mul-lcm a b) (dvd-mul_left (lcm a b) (gcd a b))

pub lcm-pos : (a b : ℕ) → 0 < a → 0 < b → 0 < lcm a b
lcm-pos a b p q =
    let some : 0 < a * b = (let more : a * 0 < a * b = mul-lt-mul_of_pos_left q p in omega arith) in
    pos_of_dvd_of_pos (lcm-dvd a b) some

least_above : (a b k : ℕ) → 0 < a → 0 < k → a ∣ k → b ∣ k → lcm a b ∣ k
least_above a b k some above p q =
    let first : a * b ∣ k * a = subst (λ z. a * b ∣ z) (mul_comm a k) (mul-dvd-mul_left b a q) in
    let second : a * b ∣ k * b = mul-dvd-mul_right a p b in
    let both : a * b ∣ k * gcd a b = subst (λ z. a * b ∣ z) (gcd_scaled k a b above) ((gcd-IsGcd (k * a) (k * b)).2 (a * b) first second) in
    let turned : gcd a b * lcm a b ∣ gcd a b * k = subst (λ z. z ∣ gcd a b * k) (sym (gcd-mul-lcm a b)) (subst (λ z. a * b ∣ z) (mul_comm k (gcd a b)) both) in
    dvd_of_mul-dvd-mul_left (lcm a b) (gcd_pos_first a b some) turned

lcm-zero : (b : ℕ) → lcm 0 b ≡ 0
unfolding lcm
lcm-zero b = zero-mul (b / gcd 0 b)

least : (a b k : ℕ) → a ∣ k → b ∣ k → lcm a b ∣ k
least a b zero p q = dvd-zero (lcm a b)
least zero b (suc k) p q = subst (λ z. z ∣ suc k) (sym (lcm-zero b)) p
least (suc a) b (suc k) p q = least_above (suc a) b (suc k) (omega arith) (omega arith) p q

pub IsLcm-lcm : (a b : ℕ) → IsLcm a b (lcm a b)
IsLcm-lcm a b = record { first = dvd-lcm_first a b; second = dvd-lcm_second a b; least = least a b }
