use Rattle.std.proofs.Common.{◌≡◌, take}
use Rattle.mc_model.specs.Runs.{expand}
use Rattle.trace_format.specs.Packing.{ArePacked}
use Rattle.trace_format.proofs.packing.merge.Given as goal

abbrev pub invariant-loop-run : goal.invariant-loop-run
invariant-loop-run l = record {
  rows : expand l.merged.items ≡ expand (take l.run-index l.runs);
  packed : ArePacked l.merged.items;
}
