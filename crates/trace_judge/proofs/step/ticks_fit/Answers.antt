use Rattle.std.proofs.Common.{arith}
use Rattle.trace_judge.proofs.Ticks.{IsTicking, at_first, stops, fits}
use Rattle.trace_judge.proofs.Faults.{stands_not_pending, stands_not_least}
use Rattle.trace_judge.proofs.step.ticks_fit.Goals as goal

pub returns-in-NotPending-clause-misfit : goal.returns-in-NotPending-clause-misfit
returns-in-NotPending-clause-misfit c g l t =
    at_first c.args.set.now.tasks c.args.rule _ g _ _ c.first.ensures c.requires.is_run.0 l (stands_not_pending c.args.set.now.tasks c.args.rule g c.args.state.now c.args.ticks.job c.args.ticks.how l t c.in-NotPending.ensures)

pub returns-in-NotLeast-clause-misfit : goal.returns-in-NotLeast-clause-misfit
returns-in-NotLeast-clause-misfit c g l t =
    at_first c.args.set.now.tasks c.args.rule _ g _ _ c.first-in-NotLeast.ensures c.requires.is_run.0 l (stands_not_least c.args.set.now.tasks c.args.rule g c.args.state.now c.args.ticks.job c.args.ticks.how l t c.in-NotLeast.ensures)

pub returns-then-fit-length-clause-misfit : goal.returns-then-fit-length-clause-misfit
returns-then-fit-length-clause-misfit c g l t =
    let i : IsTicking c.args.set.now.tasks c.args.rule g c.args.state.now c.args.ticks.job c.args.ticks.how c.args.ticks.length c.in-Least.ensures.0 c.in-Least.pending c.args.task.now =
    record { legal = l; tracks = t; room = c.requires.time; least = (c.in-Least.ensures.1, c.in-Least.ensures.2); at = c.requires.at; inside = c.requires.task; is_run = c.requires.is_run; each = c.len-is_set.ensures.set.each } in
    stops c.args.set.now.tasks c.args.rule g c.args.state.now c.args.ticks.job c.args.ticks.how c.args.ticks.length c.in-Least.ensures.0 c.in-Least.pending c.args.task.now i _ c.fitting-fit.ensures c.if-fit-length.true

pub returns-clause-fits : goal.returns-clause-fits
returns-clause-fits c g l t =
    let i : IsTicking c.args.set.now.tasks c.args.rule g c.args.state.now c.args.ticks.job c.args.ticks.how c.args.ticks.length c.in-Least.ensures.0 c.in-Least.pending c.args.task.now =
    record { legal = l; tracks = t; room = c.requires.time; least = (c.in-Least.ensures.1, c.in-Least.ensures.2); at = c.requires.at; inside = c.requires.task; is_run = c.requires.is_run; each = c.len-is_set.ensures.set.each } in
    fits c.args.set.now.tasks c.args.rule g c.args.state.now c.args.ticks.job c.args.ticks.how c.args.ticks.length c.in-Least.ensures.0 c.in-Least.pending c.args.task.now i (omega (arith, c.fitting-fit.ensures, c.if-fit-length.false))
