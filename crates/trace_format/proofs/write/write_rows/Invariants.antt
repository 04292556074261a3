use Rattle.std.proofs.Common.{◌≡◌, ◌+◌, ◌++◌, ◌≤◌, All, length}
use Rattle.mc_model.specs.Runs.{pack, IsRunOfSet}
use Rattle.mc_model.specs.TraceText.{lines_from, trace_text}
use Rattle.trace_format.specs.Writable.{IsWritable}
use Rattle.trace_format.proofs.write.write_rows.Given as goal

abbrev pub invariant-loop-run : goal.invariant-loop-run
invariant-loop-run l = record {
  text : l.out.items ++ lines_from l.set.tasks l.tick (pack l.rest) ≡ trace_text l.set.tasks l.rows;
  short : l.tick + length l.rest ≤ 2000000;
  tasks : All (IsRunOfSet l.set.tasks) (pack l.rest);
  writable : All (IsWritable l.set.tasks) (pack l.rest) → All (IsWritable l.set.tasks) (pack l.rows);
}

abbrev pub decreases-loop-run : goal.decreases-loop-run
decreases-loop-run l = length l.rest
