-- The rule of the published test holds.
use Rattle.std.proofs.Common.{◌≡◌, ℕ, ◌+◌, ◌-◌, ◌*◌, ◌^◌, ◌<◌, ◌≤◌, inl, inr, sym, subst, arith, Some}
use Rattle.std.proofs.lemmas.Bool.Decides.{leb_tells}
use Rattle.std.proofs.Math.Nat.{mul-le-mul_left, mul-le-mul_right, le_of_mul-le-mul_left, le_of_mul-le-mul_right, lt_of_mul-lt-mul_left}
use Rattle.mc_task.specs.declared.task.Rule.{Rule}
use Rattle.mc_task.specs.declared.task.Rule.TheVariants.{Virtual}
use Rattle.tick_frac.specs.Numbers.{gcd}
use Rattle.tick_frac.specs.Fraction.{lowest}
use Rattle.tick_frac.proofs.Numbers.{gcd_pos_second}
use Rattle.tick_frac.proofs.Fractions.{whole_num, whole_den}
use Rattle.mc_model.specs.Loads.{product, load_ll, load_hl, load_hh}
use Rattle.mc_model.specs.Test.{rule_of, published}
use Rattle.mc_model.specs.Holds.{HoldsOver, Fits, PublishedRuleHolds}
use Rattle.mc_model.proofs.HighLoads.{load_hl-pos}
use Rattle.mc_model.proofs.RuleCases.{virtual_rule, OnlyVirtualFits, rule_of-cases}

-- the scale b/d is at most 1: above 1, the scaled load would fit only if a + c ≤ n
scale-most : (n a b c d : ℕ) → 0 < d → n < a + c → a * b + c * d ≤ n * d → b ≤ d
scale-most n a b c d some over scaled =
    elim (leb_tells b d) [
      | inl t ↦ t.1
      | inr t ↦
          let more : a * d ≤ a * b = mul-le-mul_left a (omega arith) in
          let fits : (a + c) * d ≤ n * d = omega arith in
          let plain : a + c ≤ n = le_of_mul-le-mul_right fits some in
          absurd (omega arith)
    ]

-- a fraction p/q that equals b/d holds if the scaled load fits in n = a + d
scale-holds : (a b c d g p q : ℕ) → 0 < g → g * p ≡ b → g * q ≡ d → 0 < b → b ≤ d → a * b + c * d ≤ (a + d) * d → HoldsOver (a + d) a b c (Virtual p q)
scale-holds a b c d g p q some num den above most scaled =
    let start : g * 0 < g * p = omega arith in
    let parts : g * p ≤ g * q = omega arith in
    let low : p * a + q * (g * p) ≤ p * (a + g * q) = omega arith in
    let whole : a * (g * p) + c * (g * q) ≤ (a + g * q) * (g * q) = rw (← num, ← den) at scaled in
    let high : g * (p * a + q * c) ≤ g * (q * (a + g * q)) = omega arith in
    (lt_of_mul-lt-mul_left g start, le_of_mul-le-mul_left parts some, rw (← num, ← den) low, rw (← den) (le_of_mul-le-mul_left high some))

-- the scale of the test holds if EDF-VD alone fits
virtual-holds : (n a b c : ℕ) → (0 < c → 0 < b) → OnlyVirtualFits n a b c → HoldsOver n a b c (virtual_rule (lowest b (n - a)))
virtual-holds n a b c high fits =
    let some : 0 < n - a = omega arith in
    let whole : a + (n - a) ≡ n = omega arith in
    let most : b ≤ n - a = scale-most n a b c (n - a) some fits.over fits.scaled in
    let above : 0 < b = high (omega arith) in
    let scaled : a * b + c * (n - a) ≤ (a + (n - a)) * (n - a) = rw whole fits.scaled in
    subst (λ z. HoldsOver z a b c (virtual_rule (lowest b (n - a)))) whole
    (scale-holds a b c (n - a) (gcd b (n - a)) _ _ (gcd_pos_second b (n - a) some) (whole_num b (n - a)) (whole_den b (n - a)) above most scaled)

-- the test's rule holds, over numbers, if high tasks that ask for time do so by their low budgets too
pub rule_of-holds : (n a b c : ℕ) (rule : Rule) → (0 < c → 0 < b) → rule_of n a b c ≡ Some rule → HoldsOver n a b c rule
rule_of-holds n a b c rule high h =
    elim (rule_of-cases n a b c rule h) [
      | inl plain ↦ subst (λ r. HoldsOver n a b c r) (sym plain.0) (plain.1)
      | inr virtual ↦ subst (λ r. HoldsOver n a b c r) (sym virtual.0) (virtual-holds n a b c high (virtual.1))
    ]

-- a fraction with the denominator d has a denominator of at most d in lower terms
den-most : (g q d : ℕ) → 0 < g → g * q ≡ d → q ≤ d
den-most g q d some den =
    let more : 1 * q ≤ g * q = mul-le-mul_right q (omega arith) in
    omega arith

-- the parts of the test's scale are at most 2^60 if the loads' denominator is
pub rule_of-fits : (n a b c : ℕ) (rule : Rule) → n ≤ 2 ^ 60 → (0 < c → 0 < b) → rule_of n a b c ≡ Some rule → Fits rule
rule_of-fits n a b c rule small high h =
    elim (rule_of-cases n a b c rule h) [
      | inl plain ↦ subst (λ r. Fits r) (sym plain.0) tt
      | inr virtual ↦
          let holds = virtual-holds n a b c high (virtual.1) in
          let some : 0 < n - a = omega arith in
          let most : (lowest b (n - a)).den ≤ n - a = den-most (gcd b (n - a)) (lowest b (n - a)).den (n - a) (gcd_pos_second b (n - a) some) (whole_den b (n - a)) in
          subst (λ r. Fits r) (sym virtual.0) (holds.0, holds.1, omega arith)
    ]

-- law: the rule of the published test holds
pub published-holds : PublishedRuleHolds
unfolding published
published-holds tasks rule are h = rule_of-holds (product tasks) (load_ll tasks) (load_hl tasks) (load_hh tasks) rule (load_hl-pos tasks are) h
