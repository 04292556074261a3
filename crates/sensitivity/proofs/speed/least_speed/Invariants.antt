use Rattle.std.proofs.Common.{◌≡◌, ◌-◌, ◌*◌, ◌^◌, ◌<◌, ◌≤◌, ℕ, true, false}
use Rattle.std.specs.Prelude.{is_some}
use Rattle.mc_model.specs.Test.{rule_of}
use Rattle.sensitivity.proofs.speed.least_speed.Given as goal

abbrev pub invariant-loop-low : goal.invariant-loop-low
invariant-loop-low l = record {
  order : l.low ≤ l.high;
  small : l.high ≤ 2 ^ 60;
  admitted : is_some (rule_of (l.high * l.loads.lcm) (1000000 * l.loads.low_low) (1000000 * l.loads.high_low) (1000000 * l.loads.high_high)) ≡ true;
  refused : (j : ℕ) → j < l.low → is_some (rule_of (j * l.loads.lcm) (1000000 * l.loads.low_low) (1000000 * l.loads.high_low) (1000000 * l.loads.high_high)) ≡ false;
}

abbrev pub decreases-loop-low : goal.decreases-loop-low
decreases-loop-low l = l.high - l.low
