use Rattle.std.proofs.Common.{◌≡◌, drop, length}
use Rattle.part_fit.specs.FirstFit.{placed, first_fit}
use Rattle.part_fit.proofs.ProcessorLoads.{IsReady}
use Rattle.part_fit.proofs.placing.fit.Given as goal

abbrev pub invariant-loop-i : goal.invariant-loop-i
invariant-loop-i l = record {
  long : length l.of.items ≡ l.i;
  same : placed l.fn.set.tasks l.fn.processors (drop (length l.of.items) l.fn.set.tasks) l.of.items ≡ first_fit l.fn.set.tasks l.fn.processors;
  all : length l.all.items ≡ l.fn.processors;
  ready : IsReady l.fn.set.tasks l.tasks l.of.items l.all.items l.i;
}
