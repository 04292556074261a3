use Rattle.std.proofs.Common.{arith}
use Rattle.mc_model.proofs.Runs.{ticks-expand}
use Rattle.traces_tests.proofs.charts.has_chart.Goals as goal

pub chart-requires-clause-few : goal.chart-requires-clause-few
chart-requires-clause-few c = omega (arith, c.has_at_most.ensures c.if-not-has_at_most.false, ticks-expand c.args.runs.now)
