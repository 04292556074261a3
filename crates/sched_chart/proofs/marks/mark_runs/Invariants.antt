use Rattle.std.proofs.Common.{◌≡◌, reverse, take}
use Rattle.sched_chart.specs.ChartText.{over_stands}
use Rattle.mc_model.specs.Rows.{ticks}
use Rattle.mc_model.specs.Runs.{expand}
use Rattle.sched_chart.specs.Sheet.{chart_to}
use Rattle.sched_chart.proofs.marks.mark_runs.Given as goal

abbrev pub invariant-loop-run : goal.invariant-loop-run
invariant-loop-run l = record {
  tick : ticks (reverse (expand (take l.run-index l.runs))) ≡ l.tick;
  high : over_stands (reverse (expand (take l.run-index l.runs))) ≡ l.high;
  chart : l.chart ≡ chart_to l.set.tasks l.sheet.ticks (reverse (expand (take l.run-index l.runs)));
}
