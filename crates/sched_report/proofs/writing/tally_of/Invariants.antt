use Rattle.std.proofs.Common.{reverse, take}
use Rattle.mc_model.specs.Runs.{expand}
use Rattle.sched_report.specs.Tally.{Tallies}
use Rattle.sched_report.proofs.writing.tally_of.Given as goal

abbrev pub invariant-loop-run : goal.invariant-loop-run
invariant-loop-run l = Tallies l.set.tasks (reverse (expand (take l.run-index l.runs))) l.tally
