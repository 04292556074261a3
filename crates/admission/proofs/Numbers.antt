-- The rules over numbers: U_LL is a/n, U_HL is b/n and U_HH is c/n.
use Rattle.std.proofs.Common.{◌≡◌, ℕ, ◌+◌, ◌-◌, ◌*◌, ◌^◌, ◌<◌, ◌≤◌, ◌&&◌, nat_le, nat_lt, true, false, Some, None, sym, ◌∙◌, ap, arith}
use Rattle.std.proofs.Math.Nat.{mul-le-mul_right, le_of_mul-le-mul_left}
use Rattle.mc_task.specs.declared.task.Rule.TheVariants.{Plain, Virtual}
use Rattle.tick_frac.specs.Fraction.{Fraction, lowest}
use Rattle.mc_model.specs.Test.{rule_of}
use Rattle.mc_model.proofs.RuleCases.{virtual_rule}
use Rattle.mc_model.specs.Holds.{HoldsOver, Fits}
use Rattle.mc_model.proofs.RuleHolds.{rule_of-fits}

-- the rule of the test, by the outcomes of its two conditions
pub rule_of-plain_true : (n a b c : ℕ) → nat_le (a + c) n ≡ true → Some Plain ≡ rule_of n a b c
unfolding rule_of
rule_of-plain_true n a b c plain = cc

pub rule_of-virtual_true : (n a b c : ℕ) → nat_le (a + c) n ≡ false → (nat_lt a n && nat_le (a * b + c * (n - a)) (n * (n - a))) ≡ true
    → Some (virtual_rule (lowest b (n - a))) ≡ rule_of n a b c
unfolding rule_of
rule_of-virtual_true n a b c plain virtual = cc

pub rule_of-both_false : (n a b c : ℕ) → nat_le (a + c) n ≡ false → (nat_lt a n && nat_le (a * b + c * (n - a)) (n * (n - a))) ≡ false → None ≡ rule_of n a b c
unfolding rule_of
rule_of-both_false n a b c plain virtual = cc

-- the scale that the test gives is a fraction of at most 1, and its parts are at most 2^60
pub scale-fits : (n a b c : ℕ) (x : Fraction) → n ≤ 2 ^ 60 → (0 < c → 0 < b) → nat_le (a + c) n ≡ false
    → (nat_lt a n && nat_le (a * b + c * (n - a)) (n * (n - a))) ≡ true → x ≡ lowest b (n - a) → Fits (virtual_rule x)
scale-fits n a b c x small high plain virtual is =
    rule_of-fits n a b c (virtual_rule x) small high (sym (rule_of-virtual_true n a b c plain virtual) ∙ ap (λ y. Some (virtual_rule y)) (sym is))

-- each utilisation is at most 1 if EDF-VD holds with a scale
pub record AtMostOne (n a b c : ℕ) : Type 0 where
  pub low_low : a ≤ n
  pub high_low : b ≤ n
  pub high_high : c ≤ n

pub AtMostOne-from_holds : (n a b c p q : ℕ) → HoldsOver n a b c (Virtual p q) → AtMostOne n a b c
AtMostOne-from_holds n a b c p q h =
    let low : p * a ≤ p * n = omega arith in
    let order : p * n ≤ q * n = mul-le-mul_right n (h.1) in
    let high_low : q * b ≤ q * n = omega arith in
    let high_high : q * c ≤ q * n = omega arith in
    record { low_low = le_of_mul-le-mul_left low (h.0); high_low = le_of_mul-le-mul_left high_low (omega arith); high_high = le_of_mul-le-mul_left high_high (omega arith) }
