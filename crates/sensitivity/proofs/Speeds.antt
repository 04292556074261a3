-- The least speed of a processor on which the test admits a set.
use Rattle.std.proofs.Common.{◌≡◌, ℕ, ◌+◌, ◌*◌, ◌/◌, ◌<◌, ◌≤◌, inl, inr, sym, ap, ◌∙◌, arith, true, List}
use Rattle.std.specs.Prelude.{is_some}
use Rattle.std.proofs.Math.Nat.{mul-le-mul_right}
use Rattle.std.proofs.lemmas.Bool.{false≢true}
use Rattle.std.proofs.lemmas.Bool.Decides.{leb_tells}
use Rattle.mc_task.specs.declared.task.Task.{Task}
use Rattle.mc_model.specs.Loads.{product, load_ll, load_hl, load_hh}
use Rattle.mc_model.specs.Test.{rule_of, published}
use Rattle.mc_model.proofs.Hyperperiod.{product-pos}
use Rattle.mc_model.proofs.Tests.{rule-scaled}
use Rattle.mc_model.proofs.ThreeQuarters.{three_quarters-IsSome}
use Rattle.load_sum.specs.declared.loads.Loads.{Loads}
use Rattle.load_sum.specs.Belong.{BelongTo}
use Rattle.load_sum.proofs.BelongTo.{IsScaled-from_BelongTo}
use Rattle.sensitivity.specs.Speeds.{is_admitted_at, IsLeastSpeed, FasterIsAdmitted, EqualSpeeds, AtSpeedOne, FourThirdsLaw}
use Rattle.sensitivity.proofs.Admitted.{looser-admitted}

-- whether the test admits numbers that are i times greater, with the factor in another place
moved : (i k m n a b c : ℕ) → 0 < i → is_some (rule_of (k * (i * n)) (m * (i * a)) (m * (i * b)) (m * (i * c))) ≡ is_some (rule_of (k * n) (m * a) (m * b) (m * c))
moved i k m n a b c some =
    let p : k * (i * n) ≡ i * (k * n) = omega arith in
    let q : m * (i * a) ≡ i * (m * a) = omega arith in
    let r : m * (i * b) ≡ i * (m * b) = omega arith in
    let s : m * (i * c) ≡ i * (m * c) = omega arith in
    rw (p, q, r, s) (ap is_some (rule-scaled i (k * n) (m * a) (m * b) (m * c) some))

-- whether the test admits the loads at a speed, for each set that they belong to
pub at-loads : (k m : ℕ) (tasks : List Task) (loads : Loads) → BelongTo tasks loads
    → is_some (rule_of (k * loads.lcm) (m * loads.low_low) (m * loads.high_low) (m * loads.high_high)) ≡ is_admitted_at k m tasks
at-loads k m tasks loads belong =
    let (i, s) = IsScaled-from_BelongTo tasks loads belong in
    rw (s.low_low, s.high_low, s.high_high, s.periods) (sym (moved i k m loads.lcm loads.low_low loads.high_low loads.high_high s.above))

-- law: tasks that are admitted at some speed are admitted at each greater one
pub faster-admitted : FasterIsAdmitted
faster-admitted j k m tasks order h =
    looser-admitted (j * product tasks) (k * product tasks) (m * load_ll tasks) (m * load_hl tasks) (m * load_hh tasks) (m * load_ll tasks) (m * load_hl tasks) (m * load_hh tasks)
    (mul-le-mul_right (product tasks) order) (omega arith) (omega arith) (omega arith) h

-- law: a speed may be written as any fraction
pub equal-speeds : EqualSpeeds
equal-speeds i k m tasks some =
    let p : i * k * product tasks ≡ i * (k * product tasks) = omega arith in
    let q : i * m * load_ll tasks ≡ i * (m * load_ll tasks) = omega arith in
    let r : i * m * load_hl tasks ≡ i * (m * load_hl tasks) = omega arith in
    let s : i * m * load_hh tasks ≡ i * (m * load_hh tasks) = omega arith in
    rw (p, q, r, s) (ap is_some (rule-scaled i (k * product tasks) (m * load_ll tasks) (m * load_hl tasks) (m * load_hh tasks) some))

-- law: at speed 1 the test admits what it admits
pub at-speed-one : AtSpeedOne
unfolding published
at-speed-one m tasks some = ap is_some (rule-scaled m (product tasks) (load_ll tasks) (load_hl tasks) (load_hh tasks) some)

-- law: tasks whose loads are at most 1 in each mode are admitted at speed 4/3
pub four-thirds : FourThirdsLaw
four-thirds tasks are small =
    let some = product-pos tasks are.each in
    let low = small.0 in
    let high = small.1 in
    three_quarters-IsSome (4 * product tasks) (3 * load_ll tasks) (3 * load_hl tasks) (3 * load_hh tasks) (omega (arith, some))
    (omega (arith, low), omega (arith, high))

-- 1333334 millionths are above 4/3
pub least-four-thirds : (k : ℕ) (tasks : List Task) → is_admitted_at 4 3 tasks ≡ true → IsLeastSpeed k 1000000 tasks → k ≤ 1333334
least-four-thirds k tasks admitted least =
    elim (leb_tells k 1333334) [
      | inl t ↦ t.1
      | inr above ↦
          let same : is_admitted_at (1000000 * 4) (1000000 * 3) tasks ≡ is_admitted_at 4 3 tasks = equal-speeds 1000000 4 3 tasks (omega arith) in
          let faster : is_admitted_at (3 * 1333334) (3 * 1000000) tasks ≡ true = faster-admitted 4000000 4000002 3000000 tasks (omega arith) (same ∙ admitted) in
          let back : is_admitted_at (3 * 1333334) (3 * 1000000) tasks ≡ is_admitted_at 1333334 1000000 tasks = equal-speeds 3 1333334 1000000 tasks (omega arith) in
          absurd (false≢true (sym (least.1 1333334 (omega (arith, above.1))) ∙ sym back ∙ faster))
    ]

-- what is asked for fits into the speed above its quotient
pub quotient-above : (x n : ℕ) → 0 < n → x ≤ (x / n + 1) * n
quotient-above x n some = omega arith
