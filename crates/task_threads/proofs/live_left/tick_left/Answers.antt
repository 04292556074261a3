use Rattle.std.proofs.Common.{◌≡◌, ℕ, ◌+◌, ◌-◌, ◌<◌, ◌==◌, ◌∙◌, Bool, Some, Result, Ok, Err, ap, sym, subst, arith, length}
use Rattle.mc_task.specs.TaskSet.{IsIn, task_at}
use Rattle.mc_task.specs.declared.task.JobId.{JobId}
use Rattle.mc_model.specs.Rows.{used}
use Rattle.mode_core.specs.Shape.{IsSound}
use Rattle.mode_core.specs.Events.{chosen_now, granted}
use Rattle.mode_core.specs.declared.answers.Granted.{Granted}
use Rattle.mode_core.proofs.CallerLemmas.{chooses}
use Rattle.timetable.specs.Floor.{FloorState, after_outcome}
use Rattle.mc_model.specs.LiveTrace.{live_need}
use Rattle.task_threads.specs.LiveLeft.{Moves}
use Rattle.task_threads.proofs.LiveLeft.{free_next, grant_of, idle_of, GrantsLeft, grants_left, outcome_moves, idle_moves}
use Rattle.task_threads.proofs.LiveRoom.{has_room}
use Rattle.task_threads.proofs.live_left.tick_left.Goals as goal
use Rattle.task_threads.proofs.live_left.tick_left.Goals.{In-Grant}

-- the next act, if it is a grant
record Next (f : FloorState) (k : ℕ) : Type 0 where
  job : JobId
  inside : IsIn f.core.set k
  task : job.task.0 ≡ k
  grants : GrantsLeft f k job

next : (c : In-Grant) → Next c.args.floor.now c.in-Grant.task.0
next c =
    let f = c.args.floor.now in
    let live = c.requires.live in
    let sound : IsSound f.core = subst IsSound c.core.ensures.value c.ticks-sound.ensures.sound in
    let t = grant_of (chosen_now f.core) c.in-Grant.task.0 (sym (free_next f live) ∙ (sym c.next_act.ensures ∙ c.in-Grant.is)) in
    record {
      job = t.0;
      inside = subst (IsIn f.core.set) t.2 (chooses f.core.set f.core.rule f.core.rows t.0 sound.tasks.each sound.good.legal t.1).inside;
      task = t.2;
      grants = grants_left f c.in-Grant.task.0 t.0 live t.1 t.2 (has_room f.core c.args.ticks sound live.out c.requires.places c.requires.more);
    }

pub grant-requires : goal.grant-requires
grant-requires c = record { in_set = (next (goal.at.grant-requires c).In-Grant).inside }

pub overflow_sub-task : goal.overflow_sub-task
overflow_sub-task c = (next (goal.at.overflow_sub-task c).In-Grant).inside.0

pub bounds-needs-task : goal.bounds-needs-task
bounds-needs-task c = let x = next (goal.at.bounds-needs-task c).In-Grant in omega (arith, x.inside.0, x.inside.1, c.requires.needs.1)

same_granted : (a b : Granted) (E : Type 0) (r : Result Granted E) → r ≡ Ok a → r ≡ Ok b → b ≡ a
same_granted a b E r e f = cc

no_refusal : (a : Granted) (E : Type 0) (r : Result Granted E) (e : E) → r ≡ Ok a → r ≡ Err e → ⊥
no_refusal a E r e x y = cc

pub returns-in-Ok : goal.returns-in-Ok
returns-in-Ok c =
    let f = c.args.floor.now in
    let k = c.in-Grant.task.0 in
    let x = next (goal.at.returns-in-Ok c).In-Grant in
    let i = x.job.task.0 in
    let done : Bool = c.from.result + 1 == c.from-in-Ok.result in
    let left : FloorState = record f { core = record f.core { out = Some x.job } } in
    let same : c.in-Ok.granted ≡ granted f.core x.job = same_granted _ _ _ _ (c.grant.ensures.answer ∙ x.grants.answer) c.in-Ok.is in
    let lt : k - 1 < length c.args.needs.now = omega (arith, x.inside.0, x.inside.1, c.requires.needs.1) in
    let back : k - 1 + 1 ≡ i = omega (arith, x.inside.0, x.task) in
    let before : c.from.result ≡ used f.core.rows x.job = c.from.ensures ∙ ap (λ (g : Granted). g.before) same in
    let need : c.from-in-Ok.result ≡ live_need (task_at f.core.set i) x.job.count =
    c.from-in-Ok.ensures ∙ (c.of_count-need.ensures ∙ (c.requires.needs.0 (k - 1) (record { period = 0; low = 0; fourth = 0 }) lt c.in-Ok.granted.job.count
    ∙ (ap (λ (l : ℕ). live_need (task_at f.core.set l) c.in-Ok.granted.job.count) back ∙ ap (λ (g : Granted). live_need (task_at f.core.set i) g.job.count) same))) in
    let state : c.outcome.new.self ≡ after_outcome left x.job done =
    c.outcome.ensures.state
    ∙ (ap (λ (g : FloorState). after_outcome g c.in-Ok.granted.job done) (c.grant.ensures.state ∙ x.grants.state)
    ∙ ap (λ (g : Granted). after_outcome left g.job done) same) in
    subst (λ (g : FloorState). Moves f g 1) (sym state)
    (outcome_moves f x.job done c.requires.live (ap (λ (n : ℕ). n + 1 == c.from-in-Ok.result) before ∙ ap (λ (n : ℕ). used f.core.rows x.job + 1 == n) need))

pub unreachable-requires : goal.unreachable-requires
unreachable-requires c = no_refusal _ _ _ _ (c.grant.ensures.answer ∙ (next (goal.at.unreachable-requires c).In-Grant).grants.answer) c.in-Err.is

pub returns-in-Idle : goal.returns-in-Idle
returns-in-Idle c =
    let f = c.args.floor.now in
    let sound : IsSound f.core = subst IsSound c.core.ensures.value c.ticks-sound.ensures.sound in
    let none = idle_of (chosen_now f.core) (sym (free_next f c.requires.live) ∙ (sym c.next_act.ensures ∙ c.in-Idle.is)) in
    subst (λ (g : FloorState). Moves f g 1) (sym c.idle.ensures.state) (idle_moves f c.requires.live none (has_room f.core c.args.ticks sound c.requires.live.out c.requires.places c.requires.more))
