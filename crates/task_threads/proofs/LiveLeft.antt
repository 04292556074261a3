-- What a release, a tick and an idle tick of one caller do to a floor without a plan.
use Rattle.std.proofs.Common.{◌≡◌, ℕ, ◌+◌, ◌≤◌, ◌==◌, List, [], ◌∷◌, ◌++◌, Bool, true, false, Option, Some, None, Ok, refl, ap, sym, ◌∙◌, subst, arith}
use Rattle.std.proofs.lemmas.Bool.{eq-eqb}
use mathlib.Core.Logic.{dite}
use native.Mathlib.Decide.{ℕ_discrete}
use Rattle.mc_task.specs.declared.task.Task.{Task}
use Rattle.mc_task.specs.declared.task.Rule.{Rule}
use Rattle.mc_task.specs.declared.task.JobId.{JobId}
use Rattle.mc_task.specs.TaskSet.{task_at}
use Rattle.mc_model.specs.declared.row.Row.{Row}
use Rattle.mc_model.specs.declared.row.Row.TheVariants as row
use Rattle.mc_model.specs.Rows.{ticks, used}
use Rattle.mc_model.specs.Legal.{Legal}
use Rattle.mc_model.specs.Core.{State, outcome_of}
use Rattle.mc_model.proofs.Jobs.{same_job-refl}
use Rattle.mode_core.specs.Shape.{IsSound}
use Rattle.demand_law.proofs.Laws.{none_late}
use Rattle.mode_core.specs.Events
use Rattle.mode_core.specs.Events.{is_of_task, job_in, chosen_now, granted, is_full}
use Rattle.timetable.specs.declared.acts.Act.TheVariants as act
use Rattle.timetable.specs.Floor.{FloorState, floor_unless, of_core, plan_answer, tick_refusal, done_by, tick_act, next_act, grant_answer, after_grant, after_outcome, after_idle, after_release}
use Rattle.executive.specs.declared.entry.Call.TheVariants.{Release}
use Rattle.executive.specs.declared.entry.Answer.{Answer}
use Rattle.executive.proofs.Histories.{Way, release_held, way}
use Rattle.mode_core.proofs.CallerLemmas.{ticks-held}
use Rattle.mc_model.specs.LiveTrace.{live_need, EndByNeed, LiveTrace}
use Rattle.task_threads.specs.LiveLeft.{IsLiveFloor, Moves, HasLiveTrace}
use Rattle.task_threads.proofs.LiveLaw.{settled_ends, claimed_by_plan}

-- a release, taken or not, moves the floor by no tick
pub release_moves : (f : FloorState) (k : ℕ) → IsLiveFloor f → Moves f (after_release f k) 0
release_moves f k h = go (way f k Release)
  where
    go : {a : Answer} {g : FloorState} → Way f k Release a g → Moves f g 0
    go (release_held x n j out) = let none = h.out in absurd (cc)
    go w = record { live = record { free = h.free; out = h.out; ends = h.ends }; same = refl; ticks = omega arith }

-- without a plan the next act is a tick of the chosen job, or an idle one
pub free_next : (f : FloorState) → IsLiveFloor f → next_act f ≡ tick_act (chosen_now f.core)
free_next f h = rw (h.free, h.out) refl

-- if the next act is a grant to task k, the chosen job is of that task
pub grant_of : (o : Option JobId) (k : ℕ) → tick_act o ≡ act.Grant (record { 0 = k }) → (j : JobId) × (o ≡ Some j) × (j.task.0 ≡ k)
grant_of None k e = absurd (cc)
grant_of (Some j) k e = (j, refl, go (cc))
  where
    go : j.task ≡ record { 0 = k } → j.task.0 ≡ k
    go q = ap (λ t. t.0) q

pub idle_of : (o : Option JobId) → tick_act o ≡ act.Idle → o ≡ None
idle_of None e = refl
idle_of (Some j) e = absurd (cc)

-- the grant that one caller makes
pub record GrantsLeft (f : FloorState) (k : ℕ) (j : JobId) : Type 0 where
  pub answer : grant_answer f k ≡ Ok (granted f.core j)
  pub state : after_grant f k ≡ record f { core = record f.core { out = Some j } }

pub grants_left : (f : FloorState) (k : ℕ) (j : JobId) → IsLiveFloor f → chosen_now f.core ≡ Some j → j.task.0 ≡ k → is_full f.core ≡ false → GrantsLeft f k j
grants_left f k j h chosen task room =
    let plan : tick_refusal f ≡ None = rw h.free refl in
    let own : is_of_task (Some j) k ≡ true = eq-eqb j.task.0 k task in
    let core : Events.grant_refusal f.core k ≡ None = rw (room, h.out, chosen, own) refl in record {
      answer = ap (λ o. plan_answer o (Events.grant_answer f.core k)) plan ∙ (ap (λ o. of_core (Events.answer o (granted f.core (job_in (chosen_now f.core))))) core ∙ ap (λ (o : Option JobId). Ok (granted f.core (job_in o))) chosen);
      state = ap (λ o. floor_unless o (record f { core = Events.after_grant f.core k }) f) plan ∙ (ap (λ o. let g : FloorState = record f { core = Events.unless o (record f.core { out = chosen_now f.core }) f.core } in g) core ∙ ap (λ (o : Option JobId). let g : FloorState = record f { core = record f.core { out = o } } in g) chosen);
    }

-- the outcome of a granted tick moves the floor by one tick
pub outcome_moves : (f : FloorState) (j : JobId) (done : Bool) → IsLiveFloor f → done ≡ (used f.core.rows j + 1 == live_need (task_at f.core.set j.task.0) j.count)
    → Moves f (after_outcome (record f { core = record f.core { out = Some j } }) j done) 1
outcome_moves f j done h by =
    let claimed : Bool = done_by f.plan f.core.rows j done in
    rw (same_job-refl j) (record {
      live = record { free = h.free; out = refl; ends = settled_ends f.core.set f.core j claimed (claimed_by_plan f.plan f.core.rows j done h.free ∙ by) h.ends };
      same = refl;
      ticks = ticks-held f.core.set f.core.rule f.core.held (row.Tick j (outcome_of f.core.set f.core.rule f.core.rows j claimed) ∷ f.core.rows);
    })

-- an idle tick moves the floor by one tick
pub idle_moves : (f : FloorState) → IsLiveFloor f → chosen_now f.core ≡ None → is_full f.core ≡ false → Moves f (after_idle f) 1
idle_moves f h none room =
    let plan : tick_refusal f ≡ None = rw h.free refl in
    let core : Events.idle_refusal f.core ≡ None = rw (room, h.out, none) refl in
    subst (λ (g : FloorState). Moves f g 1)
    (sym (ap (λ o. floor_unless o (record f { core = Events.after_idle f.core }) f) plan ∙ ap (λ o. let g : FloorState = record f { core = Events.unless o (record f.core { rows = row.Idle ∷ f.core.rows }) f.core } in g) core))
    (record { live = record { free = h.free; out = h.out; ends = h.ends }; same = refl; ticks = refl })

-- the rows up to the n-th tick of a live trace are a live trace

prefix_of : (set : List Task) (rule : Rule) (n : ℕ) (g : List Row) → Legal set rule g → EndByNeed set g → 1 ≤ n → n ≤ ticks g → (later : List Row) × (h : List Row) × (g ≡ later ++ h) × LiveTrace set rule n h
prefix_of set rule n [] legal ends some few = absurd (omega (arith, some, few))
prefix_of set rule n (row.Release j kept ∷ g) legal ends some few =
    let t = prefix_of set rule n g legal.2 ends some few in
    (row.Release j kept ∷ t.0, t.1, ap (λ (l : List Row). row.Release j kept ∷ l) t.2, t.3)
prefix_of set rule n (row.Tick j how ∷ g) legal ends some few =
    let more = λ (ne : n ≡ ticks g + 1 → ⊥). prefix_of set rule n g legal.2 ends.1 some (omega (arith, ne, few)) in
    dite (ℕ_discrete n (ticks g + 1))
    (λ is. ([], row.Tick j how ∷ g, refl, record { legal = legal; ticks = sym is; last = refl; ends = ends }))
    (λ ne. let t = more ne in (row.Tick j how ∷ t.0, t.1, ap (λ (l : List Row). row.Tick j how ∷ l) t.2, t.3))
prefix_of set rule n (row.Idle ∷ g) legal ends some few =
    let more = λ (ne : n ≡ ticks g + 1 → ⊥). prefix_of set rule n g legal.2 ends some (omega (arith, ne, few)) in
    dite (ℕ_discrete n (ticks g + 1))
    (λ is. ([], row.Idle ∷ g, refl, record { legal = legal; ticks = sym is; last = refl; ends = ends }))
    (λ ne. let t = more ne in (row.Idle ∷ t.0, t.1, ap (λ (l : List Row). row.Idle ∷ l) t.2, t.3))

pub has_live_trace : (s : State) (n : ℕ) → IsSound s → EndByNeed s.set s.rows → 1 ≤ n → n ≤ ticks s.rows → HasLiveTrace s n
has_live_trace s n sound ends some few =
    let t = prefix_of s.set s.rule n s.rows sound.good.legal ends some few in
    record { later = t.0; h = t.1; rows = t.2; live = t.3; timely = none_late s.set s.rule t.1 sound.tasks.each sound.holds t.3.legal }
