use Rattle.std.proofs.Common.{ap, sym, ◌∙◌, arith, length, reverse, take}
use Rattle.mc_task.proofs.TaskLemmas.{each_of_all}
use Rattle.mc_model.specs.Legal.{IsOfSet}
use Rattle.mc_model.specs.Runs.{expand, IsRun}
use Rattle.mc_model.proofs.Runs.{rows_more}
use Rattle.sched_chart.proofs.RunTicks.{fit, first, more, of_set, reversed}
use Rattle.sched_chart.proofs.Filled.{length-chart}
use Rattle.sched_chart.proofs.marks.mark_runs.Goals as goal

pub mark_run-requires-clause-task : goal.mark_run-requires-clause-task
mark_run-requires-clause-task c = of_set (IsOfSet c.args.set.now.tasks) c.args.runs.now c.loop-run.run-index _ c.loop-run-test.true (each_of_all IsRun c.args.runs.now c.requires.runs.each) (each_of_all (IsOfSet c.args.set.now.tasks) (expand c.args.runs.now) c.requires.tasks)

pub mark_run-requires-clause-tick : goal.mark_run-requires-clause-tick
mark_run-requires-clause-tick c = fit c.args.runs.now c.loop-run.run-index c.loop-run.tick _ _ c.loop-run-test.true c.loop-run.invariant.tick (omega (arith, c.requires.ticks, reversed c.args.runs.now))

pub mark_run-requires-clause-length : goal.mark_run-requires-clause-length
mark_run-requires-clause-length c =
    let past = first c.args.runs.now c.loop-run.run-index in
    ap length c.loop-run.invariant.chart ∙ rw c.requires.width (length-chart c.args.set.now.tasks c.args.sheet.ticks _ (omega (arith, past, c.requires.ticks)))

pub tick_after-tick-requires : goal.tick_after-tick-requires
tick_after-tick-requires c = fit c.args.runs.now c.loop-run.run-index c.loop-run.tick _ _ c.loop-run-test.true c.loop-run.invariant.tick (omega (arith, c.requires.ticks, c.requires.sheet.ticks, reversed c.args.runs.now))

pub loop-run-preserved : goal.loop-run-preserved
loop-run-preserved c =
    let next = rows_more c.args.runs.now c.loop-run.run-index _ c.loop-run-test.true in
    let inv = c.loop-run.invariant in
    record {
      tick = more c.args.runs.now c.loop-run.run-index _ c.loop-run.tick _ c.loop-run-test.true inv.tick c.tick_after-tick.ensures;
      high = rw next (sym (c.high_after-high.ensures (reverse (expand (take c.loop-run.run-index c.args.runs.now))) inv.high));
      chart = rw next (c.mark_run.ensures (reverse (expand (take c.loop-run.run-index c.args.runs.now))) inv.tick inv.high inv.chart);
    }
