use Rattle.std.proofs.Common.{◌≡◌, ℕ, ◌+◌, ◌++◌, ◌^◌, ◌<◌, ◌≤◌, List, get_or, drop, length, reverse, Option, Some, None, IfSome, sym, subst, arith}
use Rattle.std.proofs.lemmas.List.{get_or_default, length-append}
use Rattle.std.proofs.lemmas.Option.{slice_get-get_or}
use Rattle.mc_task.specs.declared.task.Rule.{Rule}
use Rattle.mc_task.specs.declared.task.Task.{Task}
use Rattle.mc_model.specs.declared.row.Row.{Row}
use Rattle.mc_model.specs.declared.run.Run.{Run}
use Rattle.mc_model.specs.Legal.{Legal}
use Rattle.mc_model.specs.Runs.{expand, size}
use Rattle.mc_model.proofs.Ticks.{ticks-le}
use Rattle.trace_judge.specs.declared.state.State.{State}
use Rattle.trace_judge.specs.Tracks.{Tracks}
use Rattle.trace_judge.specs.Watched.{HasFollowed, NeedsMemory}
use Rattle.trace_judge.proofs.Watching.{followed_all, followed_until, followed_more}
use Rattle.trace_judge.proofs.Keeps.{keyed_tracks, needs_memory}
use Rattle.trace_judge.proofs.Queues.{on_err}
use Rattle.trace_judge.proofs.Reading.{read, read_le, read_few, one_read_after, around_run_after, all_read}
use Rattle.trace_judge.proofs.runs.follow_runs.Goals as goal

pub step-requires-clause-count : goal.step-requires-clause-count
step-requires-clause-count c = (c.loop-run.invariant c.requires.tracks.0 c.requires.tracks.1.0 c.requires.tracks.1.1).1.count

pub step-requires-clause-queues : goal.step-requires-clause-queues
step-requires-clause-queues c = (c.loop-run.invariant c.requires.tracks.0 c.requires.tracks.1.0 c.requires.tracks.1.1).1.queues

-- before each run there is capacity for its rows
room_here : (set : List Task) (rule : Rule) (runs : List Run) (i : ℕ) (r : Run) (h : List Row) (old s : State) → i < length runs → r ≡ get_or runs i r →
    Tracks set rule h old → Tracks set rule (read runs i ++ h) s → old.rows + length (expand runs) ≤ 2 ^ 62 → s.rows + size r ≤ 2 ^ 62
room_here set rule runs i r h old s l e before now room =
    let was = before.rows in
    let rows = now.rows in
    omega (arith, was, rows, room, length-append (read runs i) h, read_le runs i r l e)

pub step-requires-clause-room : goal.step-requires-clause-room
step-requires-clause-room c =
    let runs = c.args.runs.now in
    let i = c.loop-run.run-index in
    let t = c.loop-run.invariant c.requires.tracks.0 c.requires.tracks.1.0 c.requires.tracks.1.1 in
    room_here _ _ runs i _ c.requires.tracks.0 c.args.state.now c.loop-run.state c.loop-run-test.true (get_or_default runs i _ _ c.loop-run-test.true) c.requires.tracks.1.1 t.1 c.requires.room

pub step-requires-clause-time : goal.step-requires-clause-time
step-requires-clause-time c =
    let runs = c.args.runs.now in
    let i = c.loop-run.run-index in
    let t = c.loop-run.invariant c.requires.tracks.0 c.requires.tracks.1.0 c.requires.tracks.1.1 in
    let rows = t.1.rows in
    let time = t.1.ticks in
    omega (arith, rows, time, step-requires-clause-room c, ticks-le (read runs i ++ c.requires.tracks.0))

pub step-requires-clause-keyed : goal.step-requires-clause-keyed
step-requires-clause-keyed c = (_, keyed_tracks _ _ _ _ (c.loop-run.invariant c.requires.tracks.0 c.requires.tracks.1.0 c.requires.tracks.1.1).1)

pub step-requires-clause-task : goal.step-requires-clause-task
step-requires-clause-task c = c.requires.tasks c.loop-run.run-index _ c.loop-run-test.true

pub step-requires-clause-is_run : goal.step-requires-clause-is_run
step-requires-clause-is_run c = c.requires.runs.each c.loop-run.run-index _ c.loop-run-test.true

pub unfit_after-requires : goal.unfit_after-requires
unfit_after-requires c =
    let h = c.requires.tracks.0 in
    let t = c.loop-run.invariant h c.requires.tracks.1.0 c.requires.tracks.1.1 in
    let was = c.requires.tracks.1.1.rows in
    let rows = t.1.rows in
    omega (arith, was, rows, c.requires.room, length-append (read c.args.runs.now c.loop-run.run-index) h, read_few c.args.runs.now c.loop-run.run-index)

pub loop-run-preserved : goal.loop-run-preserved
loop-run-preserved c h l t =
    let runs = c.args.runs.now in
    let i = c.loop-run.run-index in
    let f = rw c.in_default.is at c.in_ok-misfit.ensures.step in
    let k = c.loop-run.invariant h l t in
    subst (λ (g : List Row). Legal c.args.set.now.tasks c.args.rule g × Tracks c.args.set.now.tasks c.args.rule g c.step.new.state)
    (sym (one_read_after runs i _ h c.loop-run-test.true (get_or_default runs i _ _ c.loop-run-test.true)))
    (f (read runs i ++ h) k.0 k.1)

pub returns-in-Some-clause-answer : goal.returns-in-Some-clause-answer
returns-in-Some-clause-answer c h l t =
    let runs = c.args.runs.now in
    let i = c.loop-run.run-index in
    let f = rw c.in-Some.is at c.in_ok-misfit.ensures.step in
    let k = c.loop-run.invariant h l t in
    let s = f (read runs i ++ h) k.0 k.1 in
    let here = followed_until c.args.set.now.tasks c.args.rule _ (read runs i ++ h) c.loop-run.state.rows c.in-Some.misfit c.step.new.state c.unfit_after.result k.1.rows c.unfit_after.ensures s.0 s.1 in
    subst (λ (g : List Row). HasFollowed g c.args.set.now.tasks c.args.rule c.step.new.state (Some c.unfit_after.result))
    (sym (around_run_after runs i _ h c.loop-run-test.true (get_or_default runs i _ _ c.loop-run-test.true)))
    (followed_more c.args.set.now.tasks c.args.rule c.step.new.state c.unfit_after.result (reverse (expand (drop (i + 1) runs))) _ here)

pub returns-in-Some-clause-tracks : goal.returns-in-Some-clause-tracks
returns-in-Some-clause-tracks c =
    let h = c.requires.tracks.0 in
    let f = rw c.in-Some.is at c.in_ok-misfit.ensures.step in
    let k = c.loop-run.invariant h c.requires.tracks.1.0 c.requires.tracks.1.1 in
    let s = f (read c.args.runs.now c.loop-run.run-index ++ h) k.0 k.1 in
    (_, (s.0.before, s.1))

pub returns-clause-answer : goal.returns-clause-answer
returns-clause-answer c h l t =
    let k = c.loop-run.invariant h l t in
    subst (λ (g : List Row). HasFollowed (g ++ h) c.args.set.now.tasks c.args.rule c.loop-run.state None)
    (all_read c.args.runs.now c.loop-run.run-index c.loop-run-test.false)
    (followed_all c.args.set.now.tasks c.args.rule (read c.args.runs.now c.loop-run.run-index ++ h) c.loop-run.state k.0 k.1)

pub returns-in_err-misfit-clause-some : goal.returns-in_err-misfit-clause-some
returns-in_err-misfit-clause-some c =
    let runs = c.args.runs.now in
    let i = c.loop-run.run-index in
    on_err c.from_residual.result (record {
      count = i;
      some_left = c.loop-run-test.true;
      rows = λ h l t.
          subst (λ (s : State). Legal c.args.set.now.tasks c.args.rule (read runs i ++ h) × Tracks c.args.set.now.tasks c.args.rule (read runs i ++ h) s)
          (sym c.in_err-misfit.ensures.unchanged) (c.loop-run.invariant h l t);
      memory = λ h l t. (
          let k = c.loop-run.invariant h l t in
          subst (λ (o : Option Run). IfSome o (NeedsMemory c.args.set.now.tasks (read runs i ++ h))) (sym (slice_get-get_or runs i _ c.loop-run-test.true))
          (needs_memory c.args.set.now.tasks c.args.rule (read runs i ++ h) c.loop-run.state _ k.0 k.1 c.in_err-misfit.ensures.memory)
          );
    })
