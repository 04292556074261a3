use Rattle.std.proofs.Common.{◌≡◌, ◌++◌, Some, ap, sym, ◌∙◌, arith}
use Rattle.mc_model.specs.Runs.{rows_of}
use Rattle.mc_model.proofs.Ticks.{ticks-le}
use Rattle.trace_judge.specs.Watched.{Watched}
use Rattle.trace_judge.specs.declared.unfit.Unfit.{Unfit}
use Rattle.trace_judge.proofs.Watching.{stops_unfit, none_unfit, a_monitor, tracked, stays_found}
use Rattle.trace_judge.proofs.monitor.Monitor.would_fit.Goals as goal

pub returns-in-Some-clause-answer : goal.returns-in-Some-clause-answer
returns-in-Some-clause-answer c h w =
    sym (stays_found (rows_of c.args.run) h c.args.self.now c.in-Some.unfit (ap (λ (m : Watched). m.unfit) (sym c.self.view_is) ∙ c.in-Some.is) w)

pub look-requires-clause-time : goal.look-requires-clause-time
look-requires-clause-time c =
    let rows : c.args.self.now.state.rows ≡ c.self.inside.state.rows = ap (λ (m : Watched). m.state.rows) (sym c.self.view_is) in
    omega (arith, c.in_ok-check_run.ensures.room, rows, c.self.invariant.tracks.rows, c.self.invariant.tracks.ticks, ticks-le c.self.invariant.rows)

pub returns-in-None-clause-answer : goal.returns-in-None-clause-answer
returns-in-None-clause-answer c =
    rw (← c.self.view_is) (λ h w. (
    let f = rw c.in-None.is at c.look.ensures in
    let k = tracked h (a_monitor c.self.inside.set c.self.inside.rule c.self.inside.state c.self.inside.unfit) c.in_default.is w in
    none_unfit c.self.inside.set.tasks c.self.inside.rule (rows_of c.args.run ++ h) (f h k.0 k.1)))

pub returns-in-Some-look-clause-answer : goal.returns-in-Some-look-clause-answer
returns-in-Some-look-clause-answer c =
    rw (← c.self.view_is) (λ h w. (
    let f = rw c.in-Some-look.is at c.look.ensures in
    let k = tracked h (a_monitor c.self.inside.set c.self.inside.rule c.self.inside.state c.self.inside.unfit) c.in_default.is w in
    sym (stops_unfit c.self.inside.set.tasks c.self.inside.rule c.args.run h c.self.inside.state.rows c.in-Some-look.misfit k.1.rows (f h k.0 k.1)
    ∙ ap (λ (u : Unfit). Some u) (sym c.unfit_after.ensures))))
