use Rattle.std.proofs.Common.{◌≡◌, length, reverse, sym, ◌∙◌, arith}
use Rattle.std.proofs.lemmas.List.{take_at}
use Rattle.mc_model.specs.Runs.{expand}
use Rattle.mc_model.proofs.Traces.{rows_of_trace}
use Rattle.sched_chart.proofs.Filled.{chart-whole}
use Rattle.sched_chart.proofs.drawing.chart.Goals as goal

pub mark_runs-requires-clause-tasks : goal.mark_runs-requires-clause-tasks
mark_runs-requires-clause-tasks c = rows_of_trace c.args.set.now.tasks (expand c.args.runs.now) c.requires.trace

pub returns-clause-text : goal.returns-clause-text
returns-clause-text c =
    let long : length c.mark_runs.new.chart ≡ c.in_ok-text.text.len = omega (arith, c.mark_runs.auto.chart, c.deref_mut.ensures.len) in
    take_at c.mark_runs.new.chart _ c.in_ok-text.text.len long
    ∙ (c.mark_runs.ensures ∙ chart-whole c.args.set.now.tasks c.count_ticks.result (reverse (expand c.args.runs.now)) (sym c.count_ticks.ensures.ticks))
