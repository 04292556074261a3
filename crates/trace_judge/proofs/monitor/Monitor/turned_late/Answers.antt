use Rattle.std.proofs.Common.{◌≡◌, ℕ, ◌++◌, ap, sym, subst, ◌∙◌}
use Rattle.std.specs.List.{AllByRecursion}
use Rattle.mc_task.specs.TaskSet.{IsTask}
use Rattle.mc_model.specs.Runs.{rows_of}
use Rattle.mc_model.specs.Sums.{total}
use Rattle.trace_judge.specs.declared.turned.Turned.{Turned}
use Rattle.trace_judge.specs.Turned.{turned_of}
use Rattle.trace_judge.specs.Watched.{Watched, fitted}
use Rattle.trace_judge.proofs.Quiet.{quiet_same, none_turned}
use Rattle.trace_judge.proofs.TurnedLate.{are_turned, add_late}
use Rattle.trace_judge.proofs.Watching.{none_found, tracked}
use Rattle.trace_judge.proofs.monitor.Monitor.turned_late.Goals as goal

-- the entries of a monitor whose jobs turned late, as those of its fields
of_view : (m n : Watched) → m ≡ n → (since : ℕ) (f : Turned → ℕ) → total f (turned_of m.set.tasks since m.state.ticks m.state.waiting.entries) ≡ total f (turned_of n.set.tasks since n.state.ticks n.state.waiting.entries)
of_view m n e since f = ap (λ (x : Watched). total f (turned_of x.set.tasks since x.state.ticks x.state.waiting.entries)) e

-- in the quiet stretch of time no entry's job turned late
none_there : (c : goal.After-new) → (f : Turned → ℕ) → total f c.new.result.items ≡ total f (turned_of c.args.self.now.set.tasks c.args.since c.args.self.now.state.ticks c.args.self.now.state.waiting.entries)
none_there c f =
    let quiet = quiet_same c.self.inside.set.tasks c.self.inside.rule c.self.invariant.rows c.self.inside.state c.self.inside.quiet c.self.invariant.tracks ∙ c.self.invariant.quiet in
    let none = none_turned c.self.inside.set.tasks c.self.inside.quiet.after c.self.inside.quiet.until c.args.since c.self.inside.state.ticks c.if-self-since.true c.if-now-self.true c.self.inside.state.waiting.entries quiet in
    ap (total f) (c.new.ensures.items ∙ sym none) ∙ of_view _ _ c.self.view_is c.args.since f

pub returns-then-now-self-clause-jobs : goal.returns-then-now-self-clause-jobs
returns-then-now-self-clause-jobs c h w =
    are_turned c.args.self.now.set.tasks c.args.self.now.rule (fitted c.args.self.now.set.tasks c.args.self.now.rule h) c.args.self.now.state c.args.since c.new.result.items w.legal w.tracks (none_there c)

pub returns-then-now-self-clause-late : goal.returns-then-now-self-clause-late
returns-then-now-self-clause-late c h run w fits is_run e =
    let k = tracked (rows_of run ++ h) c.args.self.now (none_found c.args.self.now.unfit fits) w in
    let each = subst (λ (m : Watched). AllByRecursion IsTask m.set.tasks) c.self.view_is c.len-is_set.ensures.set.each in
    add_late c.args.self.now.set.tasks c.args.self.now.rule run h c.args.self.now.state c.args.since c.new.result.items is_run each e k.0 k.1 (none_there c)

pub invariant_of-self : goal.invariant_of-self
invariant_of-self c = record {
  fits = c.self.invariant.fits;
  rows = c.self.invariant.rows;
  legal = c.self.invariant.legal;
  tracks = c.self.invariant.tracks;
  seen = c.self.invariant.seen;
  quiet = sym (quiet_same c.self.inside.set.tasks c.self.inside.rule c.self.invariant.rows c.self.inside.state (record { after = c.self.inside.state.ticks; until = c.in_ok-turned.until }) c.self.invariant.tracks) ∙ c.in_ok-turned.ensures.until;
}

pub returns-clause-jobs : goal.returns-clause-jobs
returns-clause-jobs c h w =
    are_turned c.args.self.now.set.tasks c.args.self.now.rule (fitted c.args.self.now.set.tasks c.args.self.now.rule h) c.args.self.now.state c.args.since c.in_ok-turned.turned.items w.legal w.tracks
    (λ f. c.in_ok-turned.ensures.turned f ∙ of_view _ _ c.self.view_is c.args.since f)

pub returns-clause-late : goal.returns-clause-late
returns-clause-late c h run w fits is_run e =
    let k = tracked (rows_of run ++ h) c.args.self.now (none_found c.args.self.now.unfit fits) w in
    let each = subst (λ (m : Watched). AllByRecursion IsTask m.set.tasks) c.self.view_is c.len-is_set.ensures.set.each in
    add_late c.args.self.now.set.tasks c.args.self.now.rule run h c.args.self.now.state c.args.since c.in_ok-turned.turned.items is_run each e k.0 k.1
    (λ f. c.in_ok-turned.ensures.turned f ∙ of_view _ _ c.self.view_is c.args.since f)
