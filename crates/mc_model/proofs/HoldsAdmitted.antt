-- Tasks for which some rule holds are admitted.
use Rattle.std.proofs.Common.{◌≡◌, ℕ, ◌+◌, ◌-◌, ◌*◌, ◌<◌, ◌≤◌, inl, inr, arith, IsSome}
use Rattle.std.proofs.lemmas.Bool.Decides.{leb_tells}
use Rattle.std.proofs.Math.Nat.{mul-le-mul_left, mul-le-mul_right, le_of_mul-le-mul_left}
use Rattle.mc_task.specs.declared.task.Rule.{Rule}
use Rattle.mc_task.specs.declared.task.Rule.TheVariants.{Plain, Virtual}
use Rattle.mc_model.specs.Loads.{product, load_ll, load_hl, load_hh}
use Rattle.mc_model.specs.Test.{rule_of, published}
use Rattle.mc_model.specs.Holds.{HoldsOver, AdmittedIfHolds}
use Rattle.mc_model.proofs.HighLoads.{load_hl-pos}
use Rattle.mc_model.proofs.RuleCases.{OnlyVirtualFits, rule_of-plain, rule_of-virtual}

-- if EDF fits, the test admits
pub plain-admitted : (n a b c : ℕ) → a + c ≤ n → IsSome (rule_of n a b c)
plain-admitted n a b c fits = rw (rule_of-plain n a b c fits)

-- if EDF-VD alone fits, the test admits
pub virtual-admitted : (n a b c : ℕ) → OnlyVirtualFits n a b c → IsSome (rule_of n a b c)
virtual-admitted n a b c fits = rw (rule_of-virtual n a b c fits)

-- if some scale p/q holds, either high tasks ask for nothing and EDF fits, or low tasks leave time
low-below : (n a b c p q : ℕ) → (0 < c → 0 < b) → n < a + c → HoldsOver n a b c (Virtual p q) → a < n
low-below n a b c p q high over holds =
    elim (leb_tells n a) [
      | inl t ↦
          let more : p * n ≤ p * a = mul-le-mul_left p (t.1) in
          let none : q * b ≤ q * 0 = omega arith in
          let no_high : b ≤ 0 = le_of_mul-le-mul_left none (omega arith) in
          let whole : p * a ≤ p * n = omega arith in
          let equal : a ≤ n = le_of_mul-le-mul_left whole (holds.0) in
          let asks : 0 < b = high (omega arith) in
          absurd (omega arith)
      | inr t ↦ t.1
    ]

-- a scale that holds is at least b/d, where d = n - a; so b/d holds too
scaled-fits : (a b c d p q : ℕ) → 0 < q → q * b ≤ p * d → p * a + q * c ≤ q * (a + d) → a * b + c * d ≤ (a + d) * d
scaled-fits a b c d p q some low high =
    let lows : a * (q * b) ≤ a * (p * d) = mul-le-mul_left a low in
    let highs : (p * a + q * c) * d ≤ q * (a + d) * d = mul-le-mul_right d high in
    let all : q * (a * b + c * d) ≤ q * ((a + d) * d) = omega arith in
    le_of_mul-le-mul_left all some

-- if some scale holds, the test admits
virtual_holds-admitted : (n a b c p q : ℕ) → (0 < c → 0 < b) → HoldsOver n a b c (Virtual p q) → IsSome (rule_of n a b c)
virtual_holds-admitted n a b c p q high holds =
    elim (leb_tells (a + c) n) [
      | inl plain ↦ plain-admitted n a b c (plain.1)
      | inr over ↦
          let below : a < n = low-below n a b c p q high (over.1) holds in
          let whole : a + (n - a) ≡ n = omega arith in
          let split : p * (a + (n - a)) ≡ p * n = rw whole in
          let low : q * b ≤ p * (n - a) = omega arith in
          let scaled : a * b + c * (n - a) ≤ (a + (n - a)) * (n - a) = scaled-fits a b c (n - a) p q (omega arith) low (rw whole (holds.3)) in
          virtual-admitted n a b c (record { over = over.1; low = below; scaled = rw whole at scaled })
    ]

-- if some rule holds, the test admits, over numbers
pub holds-IsSome : (n a b c : ℕ) (rule : Rule) → (0 < c → 0 < b) → HoldsOver n a b c rule → IsSome (rule_of n a b c)
holds-IsSome n a b c Plain high holds = plain-admitted n a b c holds
holds-IsSome n a b c (Virtual p q) high holds = virtual_holds-admitted n a b c p q high holds

-- law: tasks for which some rule holds are admitted
pub holds-admitted : AdmittedIfHolds
unfolding published
holds-admitted tasks rule are h = holds-IsSome (product tasks) (load_ll tasks) (load_hl tasks) (load_hh tasks) rule (load_hl-pos tasks are) h
