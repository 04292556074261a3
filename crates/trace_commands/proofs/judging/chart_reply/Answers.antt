use Rattle.std.proofs.Common.{◌≤◌, subst, arith}
use Rattle.mc_model.specs.Runs.{expand}
use Rattle.mc_model.proofs.Ticks.{ticks-reverse}
use Rattle.trace_commands.proofs.judging.chart_reply.Goals as goal

pub chart-requires-clause-few : goal.chart-requires-clause-few
chart-requires-clause-few c = subst (λ n. n ≤ 2000000) (ticks-reverse (expand c.args.runs.now)) (omega (arith, c.requires.ticks))
