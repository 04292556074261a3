use Rattle.std.proofs.Common.{arith}
use Rattle.sched_chart.proofs.RunTicks.{fit, whole, more, reversed}
use Rattle.sched_chart.proofs.drawing.count_ticks.Goals as goal

pub tick_after-tick-requires : goal.tick_after-tick-requires
tick_after-tick-requires c = fit c.args.runs.now c.loop-run.run-index c.loop-run.tick _ _ c.loop-run-test.true c.loop-run.invariant (omega (arith, c.requires))

pub loop-run-preserved : goal.loop-run-preserved
loop-run-preserved c = more c.args.runs.now c.loop-run.run-index _ c.loop-run.tick _ c.loop-run-test.true c.loop-run.invariant c.tick_after-tick.ensures

pub returns-clause-ticks : goal.returns-clause-ticks
returns-clause-ticks c = whole c.args.runs.now c.loop-run.run-index c.loop-run.tick c.loop-run-test.false c.loop-run.invariant

pub returns-clause-most : goal.returns-clause-most
returns-clause-most c = omega (arith, c.requires, whole c.args.runs.now c.loop-run.run-index c.loop-run.tick c.loop-run-test.false c.loop-run.invariant, reversed c.args.runs.now)
