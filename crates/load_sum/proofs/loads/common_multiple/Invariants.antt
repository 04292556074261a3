use Rattle.std.proofs.Common.{◌≡◌, ◌+◌, ◌<◌, ◌≤◌, ◌^◌, drop}
use Rattle.mc_model.specs.Loads.{lcm_from, range_fault, range_fault_from}
use Rattle.load_sum.proofs.loads.common_multiple.Given as goal

abbrev pub invariant-loop-i : goal.invariant-loop-i
invariant-loop-i l = record {
  fault : range_fault_from (l.i + 1) l.lcm (drop l.i l.set.tasks) ≡ range_fault l.set.tasks;
  same : lcm_from l.lcm (drop l.i l.set.tasks) ≡ lcm_from 1 l.set.tasks;
  above : 0 < l.lcm;
  small : l.lcm ≤ 2 ^ 60;
}
