-- The outcomes of the test, and when each comes.
use Rattle.std.proofs.Common.{◌≡◌, ℕ, suc, ◌+◌, ◌-◌, ◌*◌, ◌<◌, ◌≤◌, ◌⊎◌, inl, inr, arith, Some}
use Rattle.std.proofs.lemmas.Bool.Decides.{leb_tells}
use Rattle.mc_task.specs.declared.task.Rule.{Rule}
use Rattle.mc_task.specs.declared.task.Rule.TheVariants.{Plain, Virtual}
use Rattle.tick_frac.specs.Fraction.{Fraction, lowest}
use Rattle.mc_model.specs.Test.{rule_of}

-- the rule whose scale is this fraction
abbrev pub virtual_rule : Fraction → Rule
virtual_rule x = Virtual x.num x.den

-- plain EDF does not fit, and EDF-VD fits with the scale b / (n - a)
pub record OnlyVirtualFits (n a b c : ℕ) : Type 0 where
  pub over : n < a + c
  pub low : a < n
  pub scaled : a * b + c * (n - a) ≤ n * (n - a)

-- the test gives EDF if its load fits
pub rule_of-plain : (n a b c : ℕ) → a + c ≤ n → rule_of n a b c ≡ Some Plain
unfolding rule_of
rule_of-plain n a b c h =
    elim (leb_tells (a + c) n) [
      | inl t ↦ cc (t.0)
      | inr t ↦ absurd (omega arith)
    ]

-- the test gives EDF-VD if it alone fits
pub rule_of-virtual : (n a b c : ℕ) → OnlyVirtualFits n a b c → rule_of n a b c ≡ Some (virtual_rule (lowest b (n - a)))
unfolding rule_of
rule_of-virtual n a b c h = grind (arith, leb_tells (a + c) n, leb_tells (suc a) n, leb_tells (a * b + c * (n - a)) (n * (n - a)), h.over, h.low, h.scaled)

-- the test gives no other rules than EDF and EDF-VD with the scale b / (n - a)
pub rule_of-cases : (n a b c : ℕ) (rule : Rule) → rule_of n a b c ≡ Some rule
    → ((rule ≡ Plain) × (a + c ≤ n)) ⊎ ((rule ≡ virtual_rule (lowest b (n - a))) × OnlyVirtualFits n a b c)
unfolding rule_of
rule_of-cases n a b c rule h =
    elim (leb_tells (a + c) n) [
      | inl plain ↦ inl (cc (plain.0, h), plain.1)
      | inr over ↦
          elim (leb_tells (suc a) n) [
            | inl low ↦
                elim (leb_tells (a * b + c * (n - a)) (n * (n - a))) [
                  | inl scaled ↦ inr (cc (over.0, low.0, scaled.0, h), record { over = over.1; low = low.1; scaled = scaled.1 })
                  | inr unscaled ↦ absurd (cc (over.0, low.0, unscaled.0, h))
                ]
            | inr high ↦ absurd (cc (over.0, high.0, h))
          ]
    ]
