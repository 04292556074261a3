use Rattle.std.proofs.Common.{◌<◌, length, ap, ◌∙◌, arith}
use Rattle.std.proofs.lemmas.List.Elements.{All-get_or}
use Rattle.sched_report.specs.ReportText.{plus}
use Rattle.sched_report.specs.TaskTally.{IsSmall}
use Rattle.sched_report.specs.Counts.{counts_in, sum_tallies}
use Rattle.sched_report.proofs.Texts.{sum_more, small_counts, sum_grows}
use Rattle.sched_report.proofs.writing.sum_of.Goals as goal

pub plus-sum-requires-clause-left : goal.plus-sum-requires-clause-left
plus-sum-requires-clause-left c =
    let s = c.loop-task.invariant.small in
    let few = c.requires.few in
    record {
      released = omega (arith, s.released, few, c.loop-task-test.true);
      kept = omega (arith, s.kept, few, c.loop-task-test.true);
      dropped = omega (arith, s.dropped, few, c.loop-task-test.true);
      discarded = omega (arith, s.discarded, few, c.loop-task-test.true);
      done = omega (arith, s.done, few, c.loop-task-test.true);
      stopped = omega (arith, s.stopped, few, c.loop-task-test.true);
    }

pub loop-task-preserved : goal.loop-task-preserved
loop-task-preserved c =
    let ts = c.args.tally.now.tasks.items in
    let i = c.loop-task.task-index in
    let of = rw c.deref-task-items.ensures.value at c.of.ensures in
    let inside : i < length ts = rw c.deref-task-items.ensures.value at c.loop-task-test.true in
    record {
      sum = sum_more ts i _ (counts_in c.loop-task.sum) (counts_in c.plus-sum.result) (sum_tallies ts) inside (c.plus-sum.ensures ∙ ap (plus (counts_in c.loop-task.sum)) of) c.loop-task.invariant.sum;
      small = sum_grows i c.loop-task.sum c.of.result c.plus-sum.result c.plus-sum.ensures c.loop-task.invariant.small (small_counts _ c.of.result of (All-get_or IsSmall ts i _ inside c.requires.small));
    }
