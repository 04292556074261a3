use Rattle.std.proofs.Common.{◌≡◌, ◌++◌, Bool, true, None, Option, List, sym, ◌∙◌, ap, subst, reverse, take, arith}
use Rattle.std.proofs.lemmas.List.{length-append, length-reverse}
use Rattle.mc_model.specs.declared.row.Row.{Row}
use Rattle.mc_model.specs.Runs.{expand}
use Rattle.trace_judge.specs.declared.unfit.Unfit.{Unfit}
use Rattle.trace_judge.specs.Watched.{Watched, HasFollowed, fits_so_far, is_none}
use Rattle.trace_judge.proofs.Queues.{on_err}
use Rattle.trace_judge.proofs.Quiet.{quiet_empty}
use Rattle.trace_judge.proofs.Watching.{a_monitor, tracked, followed_all, still_watches, none_found, found_one}
use Rattle.trace_judge.proofs.monitor.Monitor.follow_all.Goals as goal

-- a monitor of which each row fits, as its fields, has found no row that does not fit
no_unfit : (fields m : Watched) (legal : Bool) → fields ≡ m → legal ≡ fits_so_far m → legal ≡ true → fields.unfit ≡ None
no_unfit fields m legal same is fits = ap (λ (x : Watched). x.unfit) same ∙ none_found m.unfit (sym is ∙ fits)

pub invariant_of-self : goal.invariant_of-self
invariant_of-self c =
    let some = c.in_err-self-inside.ensures.some in
    let n = some.rows c.self.invariant.rows c.self.invariant.legal c.self.invariant.tracks in
    record {
      fits = c.self.invariant.fits;
      rows = c.follow_runs.ensures.tracks.0;
      legal = c.follow_runs.ensures.tracks.1.0;
      tracks = c.follow_runs.ensures.tracks.1.1;
      quiet = rw c.empty-self-inside.ensures (quiet_empty c.self.inside.set.tasks c.follow_runs.ensures.tracks.0);
      seen = (
        reverse (expand (take some.count c.args.runs.now)) ++ c.self.invariant.rows,
        subst (λ (o : Option Unfit). HasFollowed (reverse (expand (take some.count c.args.runs.now)) ++ c.self.invariant.rows) c.self.inside.set.tasks c.self.inside.rule c.follow_runs.new.state o) (sym (no_unfit _ c.args.self.now c.is_legal.result c.self.view_is c.is_legal.ensures c.if-is_legal.true))
            (followed_all c.self.inside.set.tasks c.self.inside.rule _ c.follow_runs.new.state n.0 n.1),
      );
    }

pub invariant_of-self-then-is_legal : goal.invariant_of-self-then-is_legal
invariant_of-self-then-is_legal c = record {
  fits = c.self.invariant.fits;
  rows = c.follow_runs.ensures.tracks.0;
  legal = c.follow_runs.ensures.tracks.1.0;
  tracks = c.follow_runs.ensures.tracks.1.1;
  quiet = rw c.empty-self-inside.ensures (quiet_empty c.self.inside.set.tasks c.follow_runs.ensures.tracks.0);
  seen = (
    reverse (expand c.args.runs.now) ++ c.self.invariant.rows,
    c.in_ok-self-inside.ensures.answer c.self.invariant.rows c.self.invariant.legal c.self.invariant.tracks,
  );
}

pub returns-in_err-self-inside-clause-some : goal.returns-in_err-self-inside-clause-some
returns-in_err-self-inside-clause-some c =
    let none = no_unfit _ c.args.self.now c.is_legal.result c.self.view_is c.is_legal.ensures c.if-is_legal.true in
    let some = c.in_err-self-inside.ensures.some in
    let rows : List Row = c.self.invariant.rows in
    let n = some.rows rows c.self.invariant.legal c.self.invariant.tracks in
    let taken : List Row = expand (take some.count c.args.runs.now) in
    on_err c.from_residual.result
    (rw (← c.self.view_is) (record {
      count = some.count;
      some_left = some.some_left;
      rows = λ h w. (
          let k = tracked h (a_monitor c.self.inside.set c.self.inside.rule c.self.inside.state c.self.inside.unfit) none w in
          let f = some.rows h k.0 k.1 in
          subst (λ (o : Option Unfit). HasFollowed (reverse taken ++ h) c.self.inside.set.tasks c.self.inside.rule c.follow_runs.new.state o) (sym none)
          (followed_all c.self.inside.set.tasks c.self.inside.rule (reverse taken ++ h) c.follow_runs.new.state f.0 f.1)
          );
      each_fits = ap is_none none;
      many = omega (arith, n.1.rows, c.self.invariant.tracks.rows, length-append (reverse taken) rows, length-reverse taken);
      memory = λ h w. (
          let k = tracked h (a_monitor c.self.inside.set c.self.inside.rule c.self.inside.state c.self.inside.unfit) none w in
          some.memory h k.0 k.1
          );
    }))

pub returns-in_ok-self-inside-clause-rows : goal.returns-in_ok-self-inside-clause-rows
returns-in_ok-self-inside-clause-rows c =
    rw (← c.self.view_is) (λ h w. (
    let k = tracked h (a_monitor c.self.inside.set c.self.inside.rule c.self.inside.state c.self.inside.unfit) (no_unfit _ c.args.self.now c.is_legal.result c.self.view_is c.is_legal.ensures c.if-is_legal.true) w in
    c.in_ok-self-inside.ensures.answer h k.0 k.1))

pub returns-else-is_legal-clause-rows : goal.returns-else-is_legal-clause-rows
returns-else-is_legal-clause-rows c h w =
    let u = found_one c.args.self.now.unfit (sym c.is_legal.ensures ∙ c.if-is_legal.false) in
    still_watches (reverse (expand c.args.runs.now)) h c.args.self.now u.0 u.1 w
