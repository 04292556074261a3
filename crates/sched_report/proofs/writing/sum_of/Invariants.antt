use Rattle.std.proofs.Common.{◌≡◌, ◌*◌, ◌^◌, drop}
use Rattle.sched_report.specs.ReportText.{plus}
use Rattle.sched_report.specs.Counts.{counts_in, sum_tallies, AreAtMost}
use Rattle.sched_report.proofs.writing.sum_of.Given as goal

abbrev pub invariant-loop-task : goal.invariant-loop-task
invariant-loop-task l = record {
  sum : plus (counts_in l.sum) (sum_tallies (drop l.task-index l.tally.tasks.items)) ≡ sum_tallies l.tally.tasks.items;
  small : AreAtMost (l.task-index * 2 ^ 24) l.sum;
}
