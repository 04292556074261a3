use Rattle.std.proofs.Common.{◌≡◌, ◌++◌, List, Option, replicate, ap, sym, subst, ◌∙◌, arith}
use Rattle.mc_model.specs.declared.row.Row.{Row}
use Rattle.mc_model.specs.Runs.{row_of, rows_of}
use Rattle.mc_model.proofs.Ticks.{ticks-le}
use Rattle.trace_judge.specs.Watched.{Watched, HasFollowed, unfit_in}
use Rattle.trace_judge.specs.declared.unfit.Unfit.{Unfit}
use Rattle.trace_judge.proofs.Keeps.{keyed_tracks, needs_memory}
use Rattle.trace_judge.proofs.Queues.{on_err}
use Rattle.trace_judge.proofs.Quiet.{quiet_until}
use Rattle.trace_judge.proofs.Watching.{none_unfit, followed_all, followed_until, a_monitor, tracked, stays_found, still_watches}
use Rattle.trace_judge.proofs.monitor.Monitor.follow.Goals as goal

pub step-requires-clause-time : goal.step-requires-clause-time
step-requires-clause-time c =
    let rows : c.args.self.now.state.rows ≡ c.self.inside.state.rows = ap (λ (m : Watched). m.state.rows) (sym c.self.view_is) in
    omega (arith, c.requires.room, rows, c.self.invariant.tracks.rows, c.self.invariant.tracks.ticks, ticks-le c.self.invariant.rows)

pub step-requires-clause-keyed : goal.step-requires-clause-keyed
step-requires-clause-keyed c = (_, keyed_tracks c.self.inside.set.tasks c.self.inside.rule c.self.invariant.rows c.self.inside.state c.self.invariant.tracks)

pub returns-in-Some-clause-answer : goal.returns-in-Some-clause-answer
returns-in-Some-clause-answer c h w =
    sym (stays_found (rows_of c.args.run) h c.args.self.now c.in-Some.unfit (ap (λ (m : Watched). m.unfit) (sym c.self.view_is) ∙ c.in-Some.is) w)

pub returns-in-Some-clause-rows : goal.returns-in-Some-clause-rows
returns-in-Some-clause-rows c h w =
    still_watches (rows_of c.args.run) h c.args.self.now c.in-Some.unfit (ap (λ (m : Watched). m.unfit) (sym c.self.view_is) ∙ c.in-Some.is) w

pub returns-in-None-clause-answer : goal.returns-in-None-clause-answer
returns-in-None-clause-answer c =
    rw (← c.self.view_is) (λ h w. (
    let f = rw c.in-None.is at c.in_ok-step.ensures.step in
    let k = tracked h (a_monitor c.self.inside.set c.self.inside.rule c.self.inside.state c.self.inside.unfit) c.in_default.is w in
    none_unfit c.self.inside.set.tasks c.self.inside.rule (rows_of c.args.run ++ h) (f h k.0 k.1).0))

pub returns-in-None-clause-rows : goal.returns-in-None-clause-rows
returns-in-None-clause-rows c =
    rw (← c.self.view_is) (λ h w. (
    let f = rw c.in-None.is at c.in_ok-step.ensures.step in
    let k = tracked h (a_monitor c.self.inside.set c.self.inside.rule c.self.inside.state c.self.inside.unfit) c.in_default.is w in
    let n = f h k.0 k.1 in
    subst (λ (o : Option Unfit). HasFollowed (rows_of c.args.run ++ h) c.self.inside.set.tasks c.self.inside.rule c.step.new.state o) (sym c.in_default.is)
    (followed_all c.self.inside.set.tasks c.self.inside.rule (rows_of c.args.run ++ h) c.step.new.state n.0 n.1)))

pub invariant_of-self-in-None : goal.invariant_of-self-in-None
invariant_of-self-in-None c =
    let f = rw c.in-None.is at c.in_ok-step.ensures.step in
    let rows : List Row = c.self.invariant.rows in
    let n = f rows c.self.invariant.legal c.self.invariant.tracks in
    record {
      fits = c.self.invariant.fits;
      rows = rows_of c.args.run ++ rows;
      legal = n.0;
      tracks = n.1;
      quiet = c.after_run-self-inside.ensures rows c.self.invariant.tracks.ticks c.self.invariant.quiet;
      seen = (
        rows_of c.args.run ++ rows,
        subst (λ (o : Option Unfit). HasFollowed (rows_of c.args.run ++ rows) c.self.inside.set.tasks c.self.inside.rule c.step.new.state o) (sym c.in_default.is)
            (followed_all c.self.inside.set.tasks c.self.inside.rule (rows_of c.args.run ++ rows) c.step.new.state n.0 n.1),
      );
    }

pub returns-in-Some-2-clause-rows : goal.returns-in-Some-2-clause-rows
returns-in-Some-2-clause-rows c =
    rw (← c.self.view_is) (λ h w. (
    let f = rw c.in-Some-2.is at c.in_ok-step.ensures.step in
    let k = tracked h (a_monitor c.self.inside.set c.self.inside.rule c.self.inside.state c.self.inside.unfit) c.in_default.is w in
    let s = f h k.0 k.1 in
    followed_until c.self.inside.set.tasks c.self.inside.rule c.args.run h c.self.inside.state.rows c.in-Some-2.misfit c.step.new.state c.unfit_after-unfit.result k.1.rows c.unfit_after-unfit.ensures s.0 s.1))

pub invariant_of-self-in-Some-2 : goal.invariant_of-self-in-Some-2
invariant_of-self-in-Some-2 c =
    let f = rw c.in-Some-2.is at c.in_ok-step.ensures.step in
    let rows : List Row = c.self.invariant.rows in
    let s = f rows c.self.invariant.legal c.self.invariant.tracks in
    record {
      fits = c.self.invariant.fits;
      rows = replicate c.in-Some-2.misfit.after (row_of c.args.run) ++ rows;
      legal = s.0.before;
      tracks = s.1;
      quiet = quiet_until c.self.inside.set.tasks c.self.inside.rule c.args.run c.in-Some-2.misfit rows c.self.inside.quiet s.0 c.self.invariant.quiet;
      seen = (
        rows_of c.args.run ++ rows,
        followed_until c.self.inside.set.tasks c.self.inside.rule c.args.run rows c.self.inside.state.rows c.in-Some-2.misfit c.step.new.state c.unfit_after-unfit.result c.self.invariant.tracks.rows c.unfit_after-unfit.ensures s.0 s.1,
      );
    }

pub returns-in-Some-2-clause-answer : goal.returns-in-Some-2-clause-answer
returns-in-Some-2-clause-answer c h w =
    (returns-in-Some-2-clause-rows c h w).unfit ∙ ap (λ (m : Watched). unfit_in m.set.tasks m.rule (rows_of c.args.run ++ h)) c.self.view_is

pub returns-in_err-step-clause-memory : goal.returns-in_err-step-clause-memory
returns-in_err-step-clause-memory c =
    on_err c.from_residual.result (rw (← c.self.view_is) (λ h w. (
    let k = tracked h (a_monitor c.self.inside.set c.self.inside.rule c.self.inside.state c.self.inside.unfit) c.in_default.is w in
    needs_memory c.self.inside.set.tasks c.self.inside.rule h c.self.inside.state c.args.run k.0 k.1 c.in_err-step.ensures.memory)))
