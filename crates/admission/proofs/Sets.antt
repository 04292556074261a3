-- What follows from loads for the set that they belong to.
use Rattle.std.proofs.Common.{◌≡◌, ◌*◌, ◌<◌, ◌≤◌, ◌↔◌, List, Option, Some, None, IfSome, sym, arith}
use Rattle.std.proofs.Math.Nat.{le_of_mul-le-mul_left, mul-pos, lt_of_mul-lt-mul_left}
use Rattle.mc_task.specs.declared.task.Task.{Task}
use Rattle.mc_task.specs.declared.task.Rule.{Rule}
use Rattle.mc_model.specs.Loads.{product, load_hl, load_hh}
use Rattle.mc_model.specs.Test.{rule_of, published}
use Rattle.mc_model.specs.Holds.{Holds, HoldsOver, IsThreeQuarters, IsThreeQuartersOver}
use Rattle.mc_model.proofs.Loads.{high-order}
use Rattle.mc_model.proofs.HighLoads.{load_hl-pos}
use Rattle.mc_model.proofs.RuleHolds.{published-holds}
use Rattle.mc_model.proofs.Tests.{rule-scaled}
use Rattle.mc_model.proofs.ScaledHolds.{HoldsOver-multiple, HoldsOver-from_multiple, three_quarters-multiple, three_quarters-from_multiple}
use Rattle.load_sum.specs.declared.loads.Loads.{Loads}
use Rattle.load_sum.specs.Belong.{BelongTo}
use Rattle.load_sum.proofs.BelongTo.{IsScaled-from_BelongTo}

-- the published test of the loads is the published test of the tasks
pub rule_of-published : (tasks : List Task) (loads : Loads) → BelongTo tasks loads → rule_of loads.lcm loads.low_low loads.high_low loads.high_high ≡ published tasks
unfolding published
rule_of-published tasks loads belong =
    let (k, s) = IsScaled-from_BelongTo tasks loads belong in
    rw (s.low_low, s.high_low, s.high_high, s.periods) (sym (rule-scaled k loads.lcm loads.low_low loads.high_low loads.high_high s.above))

-- a rule that the published test gives for all tasks of the loads holds for the loads
pub Holds-from_published : (loads : Loads) (answer : Option Rule) → ((tasks : List Task) → BelongTo tasks loads → answer ≡ published tasks)
    → IfSome answer (λ rule. (tasks : List Task) → BelongTo tasks loads → Holds tasks rule)
Holds-from_published loads None same = tt
Holds-from_published loads (Some rule) same = λ tasks belong. published-holds tasks rule belong.set (sym (same tasks belong))

-- a rule holds for the loads exactly if it holds for the set
pub Holds-loads : (tasks : List Task) (loads : Loads) (rule : Rule) → BelongTo tasks loads
    → HoldsOver loads.lcm loads.low_low loads.high_low loads.high_high rule ↔ Holds tasks rule
Holds-loads tasks loads rule belong =
    let (k, s) = IsScaled-from_BelongTo tasks loads belong in
    rw (s.low_low, s.high_low, s.high_high, s.periods) (
      λ h. HoldsOver-multiple k loads.lcm loads.low_low loads.high_low loads.high_high rule h,
      λ h. HoldsOver-from_multiple k loads.lcm loads.low_low loads.high_low loads.high_high rule s.above h,
    )

-- the utilisations of the loads are at most 3/4 exactly if those of the set are
pub IsThreeQuarters-loads : (tasks : List Task) (loads : Loads) → BelongTo tasks loads
    → IsThreeQuartersOver loads.lcm loads.low_low loads.high_low loads.high_high ↔ IsThreeQuarters tasks
IsThreeQuarters-loads tasks loads belong =
    let (k, s) = IsScaled-from_BelongTo tasks loads belong in
    rw (s.low_low, s.high_low, s.high_high, s.periods) (
      λ h. three_quarters-multiple k loads.lcm loads.low_low loads.high_low loads.high_high h,
      λ h. three_quarters-from_multiple k loads.lcm loads.low_low loads.high_low loads.high_high s.above h,
    )

-- U_HL is at most U_HH
pub high_low-most : (tasks : List Task) (loads : Loads) → BelongTo tasks loads → loads.high_low ≤ loads.high_high
high_low-most tasks loads belong =
    let (k, s) = IsScaled-from_BelongTo tasks loads belong in
    let order : load_hl tasks ≤ load_hh tasks = high-order (product tasks) tasks belong.set.each in
    let scaled : k * loads.high_low ≤ k * loads.high_high = rw (s.high_low, s.high_high) at order in
    le_of_mul-le-mul_left scaled s.above

-- U_HL is above 0 if U_HH is
pub high_low-pos : (tasks : List Task) (loads : Loads) → BelongTo tasks loads → 0 < loads.high_high → 0 < loads.high_low
high_low-pos tasks loads belong some =
    let (k, s) = IsScaled-from_BelongTo tasks loads belong in
    let high : 0 < k * loads.high_high = mul-pos s.above some in
    let low : 0 < load_hl tasks = load_hl-pos tasks belong.set (rw s.high_high high) in
    let scaled : 0 < k * loads.high_low = rw s.high_low at low in
    let start : k * 0 < k * loads.high_low = omega arith in
    lt_of_mul-lt-mul_left k start
