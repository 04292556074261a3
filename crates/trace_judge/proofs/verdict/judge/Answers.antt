use Rattle.std.proofs.Common.{◌≡◌, [], List, Some, reverse, ◌∙◌, sym, subst, arith, append-nil}
use Rattle.std.proofs.lemmas.List.{length-reverse}
use Rattle.mc_model.specs.declared.row.Row.{Row}
use Rattle.mc_model.specs.Legal.{Legal}
use Rattle.mc_model.specs.Runs.{expand}
use Rattle.mc_model.specs.Verdict.{HasNoLate}
use Rattle.trace_judge.specs.Tracks.{Tracks}
use Rattle.trace_judge.specs.Watched.{unfit_in}
use Rattle.trace_judge.proofs.Verdicts.{legal_verdict, no_late}
use Rattle.trace_judge.proofs.Watching.{tracks_none, followed_none, unfit_verdict}
use Rattle.trace_judge.proofs.Reading.{few_rows}
use Rattle.trace_judge.proofs.verdict.judge.Goals as goal

pub follow_runs-requires-clause-tracks : goal.follow_runs-requires-clause-tracks
follow_runs-requires-clause-tracks c = ([], (tt, tracks_none c.args.set.now.tasks c.args.rule _ c.in_ok-state.state c.len.ensures.count c.in_ok-state.ensures))

pub follow_runs-requires-clause-room : goal.follow_runs-requires-clause-room
follow_runs-requires-clause-room c =
    let rows = c.in_ok-state.ensures.rows in
    omega (arith, rows, few_rows c.args.runs.now c.requires.runs, length-reverse (expand c.args.runs.now))

pub returns-in-None-clause-verdict : goal.returns-in-None-clause-verdict
returns-in-None-clause-verdict c =
    let runs = c.args.runs.now in
    let f = rw c.in-None.is at c.in_ok-follow_runs.ensures.answer in
    let all = subst (λ (h : List Row). Legal c.args.set.now.tasks c.args.rule h × Tracks c.args.set.now.tasks c.args.rule h c.follow_runs.new.state) (append-nil (reverse (expand runs)))
    (followed_none c.args.set.now.tasks c.args.rule _ c.follow_runs.new.state (f [] tt (tracks_none c.args.set.now.tasks c.args.rule _ c.in_ok-state.state c.len.ensures.count c.in_ok-state.ensures))) in
    c.legal.ensures ∙ legal_verdict c.args.set.now.tasks c.args.rule _ c.follow_runs.new.state all.0 all.1 (omega (arith, few_rows runs c.requires.runs)) c.all_late_jobs.result c.all_late_jobs.ensures

pub returns-in-None-clause-no_late : goal.returns-in-None-clause-no_late
returns-in-None-clause-no_late c holds =
    let runs = c.args.runs.now in
    let f = rw c.in-None.is at c.in_ok-follow_runs.ensures.answer in
    let all = subst (λ (h : List Row). Legal c.args.set.now.tasks c.args.rule h × Tracks c.args.set.now.tasks c.args.rule h c.follow_runs.new.state) (append-nil (reverse (expand runs)))
    (followed_none c.args.set.now.tasks c.args.rule _ c.follow_runs.new.state (f [] tt (tracks_none c.args.set.now.tasks c.args.rule _ c.in_ok-state.state c.len.ensures.count c.in_ok-state.ensures))) in
    subst HasNoLate (sym (returns-in-None-clause-verdict c)) (no_late c.args.set.now.tasks c.args.rule _ c.len.ensures.set.each holds all.0)

pub returns-clause-verdict : goal.returns-clause-verdict
returns-clause-verdict c =
    let runs = c.args.runs.now in
    let f = rw c.in-Some.is at c.in_ok-follow_runs.ensures.answer in
    c.illegal.ensures
    ∙ unfit_verdict c.args.set.now.tasks c.args.rule c.in-Some.unfit (reverse (expand runs))
    (subst (λ (h : List Row). unfit_in c.args.set.now.tasks c.args.rule h ≡ Some c.in-Some.unfit) (append-nil (reverse (expand runs)))
    (sym (f [] tt (tracks_none c.args.set.now.tasks c.args.rule _ c.in_ok-state.state c.len.ensures.count c.in_ok-state.ensures)).unfit))
