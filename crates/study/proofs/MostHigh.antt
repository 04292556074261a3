-- The greatest numerator of U_HH that the test admits, if U_LL is a/n, U_HL is b/n and U_HH is c/n, and b ≤
-- c.
use Rattle.std.proofs.Common.{◌≡◌, ℕ, ◌+◌, ◌-◌, ◌*◌, ◌/◌, ◌<◌, ◌≤◌, inl, inr, sym, subst, arith, true, false, refl, Option, Some, None}
use Rattle.std.specs.Prelude.{is_some}
use Rattle.std.proofs.lemmas.Bool.Decides.{leb_tells}
use Rattle.std.proofs.lemmas.Nat.{le-div}
use Rattle.std.proofs.Math.Nat.{mul-le-mul_left, mul-le-mul_right, le_of_mul-le-mul_right, div-mul-le_self}
use Rattle.mc_task.specs.declared.task.Rule.{Rule}
use Rattle.mc_model.specs.Test.{rule_of}
use Rattle.mc_model.proofs.RuleCases.{rule_of-plain, rule_of-virtual, rule_of-cases}
use Rattle.study.specs.Loads.{AdmitsUpTo}

no_value : {X : Type 0} (o : Option X) → ((x : X) → o ≡ Some x → ⊥) → is_some o ≡ false
no_value None h = refl
no_value (Some x) h = absurd (h x refl)

-- the scaled load of the set fits
abbrev IsScaled : ℕ → ℕ → ℕ → ℕ → Type 0
IsScaled n a b c = a * b + c * (n - a) ≤ n * (n - a)

-- if the scaled load of the set fits, the test admits
scaled-admitted : (n a b c : ℕ) → a < n → IsScaled n a b c → is_some (rule_of n a b c) ≡ true
scaled-admitted n a b c low scaled =
    elim (leb_tells (a + c) n) [
      | inl plain ↦ rw (rule_of-plain n a b c (plain.1)) refl
      | inr over ↦ rw (rule_of-virtual n a b c (record { over = over.1; low = low; scaled = scaled })) refl
    ]

-- what follows if a numerator is admitted
record IsWithin (n a b c : ℕ) : Type 0 where
  pub below : a + b ≤ n
  pub scaled : IsScaled n a b c
  pub none : n ≤ a → c ≤ 0

plain-scaled : (a b c d : ℕ) → b ≤ d → c ≤ d → a * b + c * d ≤ (a + d) * d
plain-scaled a b c d low high = omega (arith, mul-le-mul_left a low, mul-le-mul_right d high)

scale-below : (a b c d : ℕ) → 0 < d → b ≤ c → a * b + c * d ≤ (a + d) * d → b ≤ d
scale-below a b c d some order scaled =
    elim (leb_tells b d) [
      | inl t ↦ t.1
      | inr t ↦
          let more : a * d ≤ a * b = mul-le-mul_left a (omega arith) in
          let fits : c * d ≤ d * d = omega arith in
          let small : c ≤ d = le_of_mul-le-mul_right fits some in
          absurd (omega arith)
    ]

within : (n a b c : ℕ) (rule : Rule) → b ≤ c → rule_of n a b c ≡ Some rule → IsWithin n a b c
within n a b c rule order h =
    elim (rule_of-cases n a b c rule h) [
      | inl plain ↦
          let whole : a + (n - a) ≡ n = omega (arith, plain.1) in
          record {
            below = omega (arith, plain.1);
            scaled = subst (λ z. a * b + c * (n - a) ≤ z * (n - a)) whole (plain-scaled a b c (n - a) (omega (arith, plain.1)) (omega (arith, plain.1)));
            none = λ full. omega (arith, plain.1);
          }
      | inr virtual ↦
          let fits = virtual.1 in
          let low = fits.low in
          let whole : a + (n - a) ≡ n = omega (arith, low) in
          let scaled : a * b + c * (n - a) ≤ (a + (n - a)) * (n - a) = subst (λ z. a * b + c * (n - a) ≤ z * (n - a)) (sym whole) fits.scaled in
          let below : b ≤ n - a = scale-below a b c (n - a) (omega (arith, low)) order scaled in
          record { below = omega (arith, low); scaled = fits.scaled; none = λ full. absurd (omega (arith, low)) }
    ]

-- if U_LL + U_HL is above 1, no numerator is admitted
pub over-AdmitsUpTo : (n a b : ℕ) → n < a + b → AdmitsUpTo n a b None
over-AdmitsUpTo n a b over = λ c order. no_value (rule_of n a b c) (λ rule h. let w = within n a b c rule order h in absurd (omega (arith, w.below)))

-- if low tasks take all the time, only the numerator 0 is admitted
pub full-AdmitsUpTo : (n a b : ℕ) → n ≡ a → AdmitsUpTo n a b (Some 0)
full-AdmitsUpTo n a b full = λ c order.
    elim (leb_tells c 0) [
      | inl none ↦ rw (rule_of-plain n a b c (omega (arith, none.1)), none.0) refl
      | inr some ↦ rw some.0 (no_value (rule_of n a b c) (λ rule h. let w = within n a b c rule order h in absurd (omega (arith, w.none (omega arith), some.1))))
    ]

-- if low tasks leave time, numerators are admitted as far as the scaled load fits
pub part-AdmitsUpTo : (n a b : ℕ) → a < n → b ≤ n - a → AdmitsUpTo n a b (Some ((n * (n - a) - a * b) / (n - a)))
part-AdmitsUpTo n a b low scale = λ c order.
    let lows : a * b ≤ a * (n - a) = mul-le-mul_left a scale in
    let all : a * (n - a) ≤ n * (n - a) = mul-le-mul_right (n - a) (omega arith) in
    elim (leb_tells c ((n * (n - a) - a * b) / (n - a))) [
      | inl fits ↦
          let most = mul-le-mul_right (n - a) (fits.1) in
          rw fits.0 (scaled-admitted n a b c low (omega (arith, most, div-mul-le_self (n * (n - a) - a * b) (n - a), lows, all)))
      | inr past ↦
          rw past.0
          (no_value (rule_of n a b c) (λ rule h.
          let w = within n a b c rule order h in
          let most = le-div c (n * (n - a) - a * b) (n - a) (omega arith) (omega (arith, w.scaled, lows, all)) in
          absurd (omega (arith, most, past.1))))
    ]
