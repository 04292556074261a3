-- The stretch of a set, by its loads.
use Rattle.std.proofs.Common.{◌≡◌, ℕ, ◌≤◌, refl, sym, ap, ◌∙◌, arith, true, nat_le, List, Option, Some, None}
use Rattle.std.specs.Prelude.{is_some}
use Rattle.std.proofs.Math.Nat.{mul-le-mul_left}
use Rattle.mc_task.specs.declared.task.Task.{Task}
use Rattle.mc_task.specs.declared.task.Rule.{Rule}
use Rattle.mc_task.specs.declared.task.Rule.TheVariants.{Plain, Virtual}
use Rattle.mc_model.specs.Loads.{load, high_high, product, load_ll, load_hl, load_hh}
use Rattle.mc_model.specs.Test.{rule_of, published}
use Rattle.mc_model.specs.Holds.{Holds, HoldsOver}
use Rattle.mc_model.proofs.RuleHolds.{published-holds}
use Rattle.mc_model.proofs.HoldsAdmitted.{holds-admitted}
use Rattle.load_sum.specs.declared.loads.Loads.{Loads}
use Rattle.load_sum.specs.Belong.{BelongTo}
use Rattle.admission.proofs.Sets.{rule_of-published, high_low-most}
use Rattle.study.specs.Stretch.{at_percent, is_admitted_at, greatest_below, stretch, IsStretch, LessIsAdmitted}
use Rattle.study.specs.Loads.{with_high, AdmitsUpTo}
use Rattle.study.proofs.AtPercent.{at_percent-AreTasks, at_percent-BelongTo, product-at, load_ll-at, load_hl-at, load_hh-grows}
use Rattle.study.proofs.Greatest.{greatest_below-none, greatest_below-same, IsGreatestBelow, greatest_below-IsGreatestBelow}

-- what the high tasks ask for at s percent
abbrev pub high_load : Loads → List Task → ℕ → ℕ
high_load loads set s = load high_high loads.lcm (at_percent set s)

belong-at : (set : List Task) (loads : Loads) (s : ℕ) → BelongTo set loads → BelongTo (at_percent set s) (with_high loads (high_load loads set s))
belong-at set loads s b = at_percent-BelongTo set loads s (high_load loads set s) b refl

-- the test at s percent is the test of the loads with what the high tasks then ask for
pub admitted-at : (set : List Task) (loads : Loads) (s : ℕ) → BelongTo set loads
    → is_some (rule_of loads.lcm loads.low_low loads.high_low (high_load loads set s)) ≡ is_admitted_at set s
admitted-at set loads s b = ap is_some (rule_of-published (at_percent set s) (with_high loads (high_load loads set s)) (belong-at set loads s b))

order-at : (set : List Task) (loads : Loads) (s : ℕ) → BelongTo set loads → loads.high_low ≤ high_load loads set s
order-at set loads s b = high_low-most (at_percent set s) (with_high loads (high_load loads set s)) (belong-at set loads s b)

-- if no numerator is admitted, the set has no stretch
pub stretch-none : (set : List Task) (loads : Loads) → BelongTo set loads → AdmitsUpTo loads.lcm loads.low_low loads.high_low None → None ≡ stretch set
stretch-none set loads b none =
    sym (greatest_below-none (is_admitted_at set) 1001 (λ s lt. sym (admitted-at set loads s b) ∙ none (high_load loads set s) (order-at set loads s b)))

-- if numerators are admitted up to one, the stretch is the greatest percentage with such a numerator
pub stretch-some : (set : List Task) (loads : Loads) (most : ℕ) → BelongTo set loads → AdmitsUpTo loads.lcm loads.low_low loads.high_low (Some most)
    → greatest_below (λ s. nat_le (high_load loads set s) most) 1001 ≡ stretch set
stretch-some set loads most b some =
    greatest_below-same (λ s. nat_le (high_load loads set s) most) (is_admitted_at set) 1001 (λ s lt.
    sym (some (high_load loads set s) (order-at set loads s b)) ∙ admitted-at set loads s b)

room-greatest : (set : List Task) (o : Option ℕ) → IsGreatestBelow (is_admitted_at set) 1001 o → IsStretch set o
room-greatest set None h = λ s le. h s (omega arith)
room-greatest set (Some s) h = (omega (arith, h.0), h.1, λ r above le. h.2 r above (omega arith))

-- the stretch is the greatest percentage that is admitted
pub stretch-greatest : (set : List Task) → IsStretch set (stretch set)
stretch-greatest set = room-greatest set (stretch set) (greatest_below-IsGreatestBelow (is_admitted_at set) 1001)

-- a rule that holds also holds if the high tasks ask for less
holds-less : (n a b c d : ℕ) (rule : Rule) → d ≤ c → HoldsOver n a b c rule → HoldsOver n a b d rule
holds-less n a b c d Plain less h = omega arith
holds-less n a b c d (Virtual p q) less h =
    (h.0, h.1, h.2, omega (arith, mul-le-mul_left q less, h.3))

value_of : {X : Type 0} (o : Option X) → is_some o ≡ true → (x : X) × (o ≡ Some x)
value_of None h = absurd (cc h)
value_of (Some x) h = (x, refl)

-- law: a set that is admitted stays so with lower high budgets
pub less-admitted : LessIsAdmitted
less-admitted set r s is le h =
    let (rule, gives) = value_of (published (at_percent set s)) h in
    let holds : Holds (at_percent set s) rule = published-holds (at_percent set s) rule (at_percent-AreTasks set s is) gives in
    let same : HoldsOver (product (at_percent set r)) (load_ll (at_percent set r)) (load_hl (at_percent set r)) (load_hh (at_percent set s)) rule =
    rw (load_ll-at r set, load_hl-at r set, product-at r set, product-at s set) (rw (load_ll-at s set, load_hl-at s set, product-at s set) at holds) in
    holds-admitted (at_percent set r) rule (at_percent-AreTasks set r is) (holds-less _ _ _ _ _ rule (load_hh-grows r s set le) same)
