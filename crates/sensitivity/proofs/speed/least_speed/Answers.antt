use Rattle.std.proofs.Common.{◌≡◌, ℕ, ◌+◌, ◌*◌, ◌/◌, ◌≤◌, false, sym, ◌∙◌, arith}
use Rattle.std.specs.Prelude.{is_some}
use Rattle.std.proofs.Math.Nat.{mul-le-mul_right}
use Rattle.std.proofs.lemmas.Bool.{false≢true}
use Rattle.mc_model.specs.Test.{rule_of}
use Rattle.mc_model.proofs.HoldsAdmitted.{plain-admitted}
use Rattle.sensitivity.proofs.Admitted.{false-unless, looser-admitted}
use Rattle.sensitivity.proofs.Budgets.{AreSmall-of}
use Rattle.sensitivity.proofs.Speeds.{at-loads, faster-admitted, equal-speeds, at-speed-one, four-thirds, least-four-thirds}
use Rattle.sensitivity.proofs.speed.least_speed.Goals as goal

pub speed_for_edf-high-requires : goal.speed_for_edf-high-requires
speed_for_edf-high-requires c = AreSmall-of c.requires.tasks c.args.loads.now c.requires.belong

pub loop-low-init : goal.loop-low-init
loop-low-init c = record {
  order = omega arith;
  small = c.speed_for_edf-high.ensures.small;
  admitted = plain-admitted (c.speed_for_edf-high.result * c.args.loads.now.lcm) (1000000 * c.args.loads.now.low_low) (1000000 * c.args.loads.now.high_low) (1000000 * c.args.loads.now.high_high)
      c.speed_for_edf-high.ensures.fits;
  refused = λ j below. absurd (omega (arith, below));
}

pub admits_at-requires-clause-loads : goal.admits_at-requires-clause-loads
admits_at-requires-clause-loads c = AreSmall-of c.requires.tasks c.args.loads.now c.requires.belong

pub loop-low-preserved : goal.loop-low-preserved
loop-low-preserved c =
    let n : ℕ = c.args.loads.now.lcm in
    let x : ℕ = 1000000 * c.args.loads.now.low_low in
    let y : ℕ = 1000000 * c.args.loads.now.high_low in
    let z : ℕ = 1000000 * c.args.loads.now.high_high in
    let middle : ℕ = (c.loop-low.low + c.loop-low.high) / 2 in
    let here : is_some (rule_of (middle * n) x y z) ≡ false = sym c.admits_at.ensures ∙ c.if-admits_at.false in
    record {
      order = omega (arith, c.loop-low-test.true);
      small = c.loop-low.invariant.small;
      admitted = c.loop-low.invariant.admitted;
      refused = λ j below.
          let most : j ≤ middle = omega (arith, below) in
          false-unless (is_some (rule_of (j * n) x y z))
          (λ admitted. false≢true (sym here ∙ looser-admitted (j * n) (middle * n) x y z x y z (mul-le-mul_right n most) (omega arith) (omega arith) (omega arith) admitted));
    }

pub returns-clause-least : goal.returns-clause-least
returns-clause-least c = λ tasks belong. (
  sym (at-loads c.loop-low.high 1000000 tasks c.args.loads.now belong) ∙ c.loop-low.invariant.admitted,
  λ j below. sym (at-loads j 1000000 tasks c.args.loads.now belong) ∙ c.loop-low.invariant.refused j (omega (arith, below, c.loop-low-test.false)),
)

pub returns-clause-four_thirds : goal.returns-clause-four_thirds
returns-clause-four_thirds c = λ tasks belong small. least-four-thirds c.loop-low.high tasks (four-thirds tasks belong.set small) (returns-clause-least c tasks belong)

pub returns-clause-law : goal.returns-clause-law
returns-clause-law c = four-thirds

pub returns-clause-faster : goal.returns-clause-faster
returns-clause-faster c = faster-admitted

pub returns-clause-equal : goal.returns-clause-equal
returns-clause-equal c = equal-speeds

pub returns-clause-one : goal.returns-clause-one
returns-clause-one c = at-speed-one
