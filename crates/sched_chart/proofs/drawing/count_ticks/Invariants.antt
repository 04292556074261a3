use Rattle.std.proofs.Common.{◌≡◌, reverse, take}
use Rattle.mc_model.specs.Rows.{ticks}
use Rattle.mc_model.specs.Runs.{expand}
use Rattle.sched_chart.proofs.drawing.count_ticks.Given as goal

abbrev pub invariant-loop-run : goal.invariant-loop-run
invariant-loop-run l = ticks (reverse (expand (take l.run-index l.runs))) ≡ l.tick
