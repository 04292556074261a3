use Rattle.std.proofs.Common.{◌≡◌, ◌++◌, All, take, drop}
use Rattle.mc_model.specs.Sums.{total}
use Rattle.mc_model.specs.Runs.{length_of}
use Rattle.mc_model.specs.TraceText.{lines_from, runs_text}
use Rattle.trace_format.specs.Writable.{IsWritable}
use Rattle.trace_format.proofs.write.write_trace.Given as goal

abbrev pub invariant-loop-run : goal.invariant-loop-run
invariant-loop-run l = record {
  tick : l.tick ≡ total length_of (take l.run-index l.runs);
  text : l.out.items ++ lines_from l.set.tasks l.tick (drop l.run-index l.runs) ≡ runs_text l.set.tasks l.runs;
  writable : All (IsWritable l.set.tasks) (take l.run-index l.runs);
}
