use Rattle.std.proofs.Common.{◌≡◌, ◌+◌, ◌*◌, ◌≤◌, ◌^◌, drop}
use Rattle.mc_model.specs.Loads.{load, low_low, high_low, high_high}
use Rattle.load_sum.proofs.loads.loads_over.Given as goal

abbrev pub invariant-loop-i : goal.invariant-loop-i
invariant-loop-i l = record {
  low_low : l.low_low + load low_low l.lcm (drop l.i l.set.tasks) ≡ load low_low l.lcm l.set.tasks;
  high_low : l.high_low + load high_low l.lcm (drop l.i l.set.tasks) ≡ load high_low l.lcm l.set.tasks;
  high_high : l.high_high + load high_high l.lcm (drop l.i l.set.tasks) ≡ load high_high l.lcm l.set.tasks;
  low_low_small : l.low_low ≤ l.i * 2 ^ 92;
  high_low_small : l.high_low ≤ l.i * 2 ^ 92;
  high_high_small : l.high_high ≤ l.i * 2 ^ 92;
}
