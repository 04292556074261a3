use Rattle.std.proofs.Common.{◌++◌, List}
use Rattle.mc_model.specs.declared.row.Row.{Row}
use Rattle.mc_model.specs.Legal.{Legal}
use Rattle.trace_judge.specs.Tracks.{Tracks}
use Rattle.trace_judge.proofs.Reading.{read}
use Rattle.trace_judge.proofs.runs.follow_runs.Given as goal

abbrev pub invariant-loop-run : goal.invariant-loop-run
invariant-loop-run l = (h : List Row) → Legal l.set.tasks l.rule h → Tracks l.set.tasks l.rule h l.fn.state
    → Legal l.set.tasks l.rule (read l.runs l.run-index ++ h) × Tracks l.set.tasks l.rule (read l.runs l.run-index ++ h) l.state
