use Rattle.std.proofs.Common.{inl, inr}
use Rattle.trace_judge.proofs.Ticks.{IsTicking, goes}
use Rattle.trace_judge.proofs.step.follow_ticks.Goals as goal

pub returns-in-More : goal.returns-in-More
returns-in-More c g l t =
    let i : IsTicking c.args.set.now.tasks c.args.rule g c.args.state.now c.args.ticks.job c.args.ticks.how c.args.ticks.length c.requires.least.0 c.args.pending c.args.task.now =
    record { legal = l; tracks = t; room = c.requires.time; least = (c.requires.least.1, c.requires.least.2); at = c.requires.at; inside = c.requires.task; is_run = c.requires.is_run; each = c.len-is_set.ensures.set.each } in
    goes c.args.set.now.tasks c.args.rule g c.args.state.now _ c.args.ticks.job c.args.ticks.how c.args.ticks.length c.requires.least.0 c.args.pending c.args.task.now i c.requires.fitting (rw c.in-More.is c.go_on.ensures)

pub returns-in-Over : goal.returns-in-Over
returns-in-Over c g l t =
    let i : IsTicking c.args.set.now.tasks c.args.rule g c.args.state.now c.args.ticks.job c.args.ticks.how c.args.ticks.length c.requires.least.0 c.args.pending c.args.task.now =
    record { legal = l; tracks = t; room = c.requires.time; least = (c.requires.least.1, c.requires.least.2); at = c.requires.at; inside = c.requires.task; is_run = c.requires.is_run; each = c.len-is_set.ensures.set.each } in
    goes c.args.set.now.tasks c.args.rule g c.args.state.now _ c.args.ticks.job c.args.ticks.how c.args.ticks.length c.requires.least.0 c.args.pending c.args.task.now i c.requires.fitting (rw c.in-Over.is c.overrun.ensures)

pub returns-in-Done : goal.returns-in-Done
returns-in-Done c g l t =
    let i : IsTicking c.args.set.now.tasks c.args.rule g c.args.state.now c.args.ticks.job c.args.ticks.how c.args.ticks.length c.requires.least.0 c.args.pending c.args.task.now =
    record { legal = l; tracks = t; room = c.requires.time; least = (c.requires.least.1, c.requires.least.2); at = c.requires.at; inside = c.requires.task; is_run = c.requires.is_run; each = c.len-is_set.ensures.set.each } in
    goes c.args.set.now.tasks c.args.rule g c.args.state.now _ c.args.ticks.job c.args.ticks.how c.args.ticks.length c.requires.least.0 c.args.pending c.args.task.now i c.requires.fitting
    (elim c.in-Done.is [ inl done ↦ rw done c.end.ensures | inr stop ↦ rw stop c.end.ensures ])
