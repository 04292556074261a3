-- With no granted tick, the next act of an unfinished plan adds a row; a finished plan has its trace.
use Rattle.std.proofs.Common.{◌≡◌, ℕ, ◌<◌, ◌≤◌, Bool, true, false, List, [], ◌∷◌, Option, Some, None, Result, Ok, Err, length, cond, option_map, refl, sym, ap, ◌∙◌, subst, arith, eqb-true, le-ltb}
use Rattle.std.proofs.lemmas.List.{length-reverse}
use Rattle.std.proofs.lemmas.Bool.{eqb-false}
use Rattle.mc_task.specs.declared.task.TaskNo.{TaskNo}
use Rattle.mc_task.specs.declared.task.JobId.{JobId}
use Rattle.mc_task.specs.TaskSet.{IsIn}
use Rattle.mc_model.specs.declared.row.Row.{Row}
use Rattle.mc_model.specs.declared.row.Row.TheVariants.{Tick}
use Rattle.mc_model.specs.declared.work.WorkRow.{WorkRow}
use Rattle.mc_model.specs.Rows.{ticks, next_release}
use Rattle.mc_model.specs.Core.{State, begun, places_used, next, next_after, tick_out, release_row, outcome_of}
use Rattle.mc_model.specs.Follows.{Arrival, arrivals, planned}
use Rattle.mc_model.specs.Work.{IsNeed}
use Rattle.mc_model.proofs.Booleans.{eqb-refl}
use Rattle.mode_core.specs.declared.answers.Granted.{Granted}
use Rattle.mode_core.specs.declared.answers.GrantFault.{GrantFault}
use Rattle.mode_core.specs.Events as core_event
use Rattle.mode_core.specs.Events.{chosen_now, granted}
use Rattle.mode_core.specs.Shape.{IsSound}
use Rattle.mode_core.proofs.CallerLemmas.{chooses, no_held}
use Rattle.timetable.specs.declared.plan.Plan.{Plan}
use Rattle.timetable.specs.declared.plan.Plan.TheVariants.{Free, Rows}
use Rattle.timetable.specs.declared.acts.Act.{Act}
use Rattle.timetable.specs.declared.acts.Act.TheVariants as act
use Rattle.timetable.specs.Floor.{FloorState, is_planned, due, due_at, ends_at, is_finished, done_by, not_due, of_core, releasing, tick_refusal, grant_answer, after_grant, after_outcome, after_release, release_act, tick_act, act_or, next_act}
use Rattle.timetable.specs.Plans.{IsTheTrace, IsTraceOfPlan, HasTaken, settled_by}
use Rattle.timetable.specs.Shape.{first_job, Runs, KeepsToWork, KeepsToPlan, AddsRow}
use Rattle.timetable.proofs.Calls.{given_before, given, released}
use Rattle.timetable.proofs.Due.{need_at}
use Rattle.timetable.proofs.Steps.{IsDueRow, due_is, MayTake, may_take, settled_none, room_for, within}
use Rattle.timetable.proofs.Extends.{only_trace}

-- a floor by its parts
abbrev floor : State → Plan → ℕ → FloorState
floor s plan taken = record { core = s; plan = plan; taken = taken }

-- What the next act says, if no tick is granted and the plan is not finished.

-- the next act, by the due release, the job with a granted tick, whether the plan is finished, and the chosen
-- job
abbrev act_by : Option WorkRow → Option JobId → Bool → Option JobId → Act
act_by o out f c = act_or (release_act o out) (act_or (option_map act.Wait out) (cond f act.Finished (tick_act c)))

-- the next act is a release of task k
record IsRelease (o : Option WorkRow) (k : TaskNo) : Type 0 where
  row : WorkRow
  due : o ≡ Some row
  task : row.task ≡ k

is_release : (o : Option WorkRow) (out : Option JobId) (f : Bool) (c : Option JobId) (k : TaskNo) → out ≡ None → f ≡ false → act_by o out f c ≡ act.Release k → IsRelease o k
is_release None None false None k p q e = cc
is_release None None false (Some j) k p q e = cc
is_release (Some w) None f c k p q e = record { row = w; due = refl; task = cc }
is_release o None true c k p q e = cc
is_release o (Some j) f c k p q e = cc

-- the next act is a tick of task k
record IsGrant (o : Option WorkRow) (c : Option JobId) (k : TaskNo) : Type 0 where
  none : o ≡ None
  job : JobId
  chosen : c ≡ Some job
  task : job.task ≡ k

is_grant : (o : Option WorkRow) (out : Option JobId) (f : Bool) (c : Option JobId) (k : TaskNo) → out ≡ None → f ≡ false → act_by o out f c ≡ act.Grant k → IsGrant o c k
is_grant None None false None k p q e = cc
is_grant None None false (Some j) k p q e = record { none = refl; job = j; chosen = refl; task = cc }
is_grant (Some w) None f c k p q e = cc
is_grant o None true c k p q e = cc
is_grant o (Some j) f c k p q e = cc

-- the next act is none if the plan is finished and no release is due
is_over : (o : Option WorkRow) (out : Option JobId) (f : Bool) (c : Option JobId) → o ≡ None → out ≡ None → f ≡ true → act_by o out f c ≡ act.Finished
is_over None None true c p q r = refl
is_over None None false c p q r = cc
is_over None (Some j) f c p q r = cc
is_over (Some w) out f c p q r = cc

-- two successful results of one call are equal
ok_same : {T E : Type 0} → (r : Result T E) (x y : T) → r ≡ Ok x → r ≡ Ok y → x ≡ y
ok_same (Ok z) x y p q = cc
ok_same (Err e) x y p q = cc

-- Capacity.

-- a core that is not full has capacity for one more row
row_room : (s : State) → places_used s < s.places → length s.rows < s.places
row_room s r = omega (arith, r)

-- a floor with one row more
adds_row : (f g : FloorState) (row : Row) (m : ℕ) → length f.core.rows < f.core.places → g ≡ record f { core = record f.core { rows = row ∷ f.core.rows }; taken = m } → AddsRow f g
adds_row f g row m r e = subst (AddsRow f) (sym e) (record { room = r; row = row; after = refl })

-- with no granted tick, the ticks begun are those with rows
begun_none : (s : State) → s.out ≡ None → begun s ≡ ticks s.rows
begun_none s o = omega (arith, ap tick_out o)

-- in a plan that is not finished fewer than n ticks are begun
soon : (s : State) (work : List WorkRow) (n taken : ℕ) → IsSound s → KeepsToWork s work n taken → ends_at (Rows work n) (begun s) ≡ false → begun s < n
soon s work n taken sound r e = omega (arith, within s work n taken sound r, eqb-false (begun s) n e)

-- Releases.

-- the task is in the set, and its release adds a row
pub record ReleaseAdds (f : FloorState) (k : ℕ) : Type 0 where
  pub inside : IsIn f.core.set k
  pub adds : AddsRow f (after_release f k)

pub release_adds : (s : State) (plan : Plan) (taken : ℕ) (k : TaskNo) → is_planned plan ≡ true → s.out ≡ None → is_finished (floor s plan taken) ≡ false → IsSound s → KeepsToPlan plan s taken → next_act (floor s plan taken) ≡ act.Release k → ReleaseAdds (floor s plan taken) k.0
release_adds s Free taken k p o f sound run e = cc
release_adds s (Rows work n) taken k p o f sound run e = record {
  inside = subst (λ (i : TaskNo). IsIn s.set i.0) is.task need.task;
  adds = record { room = row_room s may.room; row = row; after = after };
}
  where
    is : IsRelease (due_at (Rows work n) taken (begun s)) k
    is = is_release (due (floor s (Rows work n) taken)) s.out (is_finished (floor s (Rows work n) taken)) (chosen_now s) k o f e

    d : IsDueRow work n taken (begun s) is.row
    d = due_is work n taken (begun s) is.row is.due

    need : IsNeed s.set is.row
    need = need_at s.set work taken is.row run.schedule.is_work d.row

    may : MayTake s work n taken k.0
    may = subst (λ (i : TaskNo). MayTake s work n taken i.0) is.task (may_take s work n taken is.row sound run d)

    row : Row
    row = release_row s.set s.rule (first_job s.rows k.0) s.rows

    held : s.held ≡ []
    held = no_held s sound.good o

    time : next_release s.set s.rows k.0 ≤ ticks s.rows
    time =
        let a : next s k.0 ≡ next_release s.set s.rows k.0 = ap (λ (js : List JobId). next_after s.set s.rows js k.0) held in
        omega (arith, a, may.soon, begun_none s o)

    core : core_event.after_release s k.0 ≡ record s { rows = row ∷ s.rows }
    core = released s k.0 (let range = sound.range in omega (arith, range)) o held time may.room

    none : not_due (Rows work n) (due_at (Rows work n) taken (begun s)) k.0 ≡ None
    none =
        ap (λ (x : Option WorkRow). not_due (Rows work n) x k.0) is.due
        ∙ subst (λ (i : TaskNo). not_due (Rows work n) (Some (record is.row { task = i })) k.0 ≡ None) (sym is.task) (rw (eqb-refl k.0) refl)

    after : after_release (floor s (Rows work n) taken) k.0 ≡ record (floor s (Rows work n) taken) { core = record s { rows = row ∷ s.rows }; taken = (after_release (floor s (Rows work n) taken) k.0).taken }
    after = rw none (ap (λ (t : State). let g : FloorState = record { core = t; plan = Rows work n; taken = (releasing (floor s (Rows work n) taken) k.0).taken } in g) core)

-- Ticks.

-- the task is in the set, and its tick with its outcome adds a row
pub record GrantAdds (f : FloorState) (k : ℕ) : Type 0 where
  pub inside : IsIn f.core.set k
  pub given : (x : Granted) (claimed : Bool) → grant_answer f k ≡ Ok x → AddsRow f (after_outcome (after_grant f k) x.job claimed)

pub grant_adds : (s : State) (plan : Plan) (taken : ℕ) (k : TaskNo) → is_planned plan ≡ true → s.out ≡ None → is_finished (floor s plan taken) ≡ false → IsSound s → KeepsToPlan plan s taken → next_act (floor s plan taken) ≡ act.Grant k → GrantAdds (floor s plan taken) k.0
grant_adds s Free taken k p o f sound run e = cc
grant_adds s (Rows work n) taken k p o f sound run e = record {
  inside = subst (λ (i : TaskNo). IsIn s.set i.0) g.task (chooses s.set s.rule s.rows g.job sound.tasks.each sound.good.legal g.chosen).inside;
  given = λ x claimed a. adds_row (floor s (Rows work n) taken) _ (Tick g.job (outcome_of s.set s.rule s.rows g.job (done_by (Rows work n) (core_event.after_grant s k.0).rows x.job claimed))) taken (row_room s room) (after x claimed (job_is x a));
}
  where
    g : IsGrant (due_at (Rows work n) taken (begun s)) (chosen_now s) k
    g = is_grant (due (floor s (Rows work n) taken)) s.out (is_finished (floor s (Rows work n) taken)) (chosen_now s) k o f e

    room : places_used s < s.places
    room = room_for s work n taken sound run (soon s work n taken sound run f)

    none : tick_refusal (floor s (Rows work n) taken) ≡ None
    none = rw (g.none, f) refl

    core : core_event.grant_answer s k.0 ≡ Ok (granted s g.job)
    core = subst (λ (i : TaskNo). core_event.grant_answer s i.0 ≡ Ok (granted s g.job)) g.task (given_before s g.job (core_event.grant_answer s g.job.task.0) o g.chosen room refl)

    answer : grant_answer (floor s (Rows work n) taken) k.0 ≡ Ok (granted s g.job)
    answer = rw none (ap (λ (r : Result Granted GrantFault). of_core r) core)

    job_is : (x : Granted) → grant_answer (floor s (Rows work n) taken) k.0 ≡ Ok x → x.job ≡ g.job
    job_is x a = ap (λ (y : Granted). y.job) (ok_same _ x (granted s g.job) a answer)

    after : (x : Granted) (claimed : Bool) → x.job ≡ g.job →
        after_outcome (after_grant (floor s (Rows work n) taken) k.0) x.job claimed ≡ record (floor s (Rows work n) taken) {
          core = record s { rows = Tick g.job (outcome_of s.set s.rule s.rows g.job (done_by (Rows work n) (core_event.after_grant s k.0).rows x.job claimed)) ∷ s.rows };
        }
    after x claimed j =
        let d : Bool = done_by (Rows work n) (core_event.after_grant s k.0).rows x.job claimed in
        let e1 : core_event.after_outcome (core_event.after_grant s g.job.task.0) g.job d ≡ record s { rows = Tick g.job (outcome_of s.set s.rule s.rows g.job d) ∷ s.rows } = given s g.job d o (no_held s sound.good o) g.chosen room in
        let e2 : core_event.after_outcome (core_event.after_grant s k.0) x.job d ≡ record s { rows = Tick g.job (outcome_of s.set s.rule s.rows g.job d) ∷ s.rows } =
        ap (λ (i : JobId). core_event.after_outcome (core_event.after_grant s k.0) i d) j ∙ (ap (λ (i : TaskNo). core_event.after_outcome (core_event.after_grant s i.0) g.job d) (sym g.task) ∙ e1) in
        rw none (ap (λ (t : State). let y : FloorState = record { core = t; plan = Rows work n; taken = taken } in y) e2)

-- The end.

-- a finished plan has its trace, each planned release was taken, and there is no next act
pub record IsEnded (f : FloorState) : Type 0 where
  pub trace : IsTraceOfPlan f.plan f.core
  pub taken : HasTaken f.plan f.taken
  pub next : next_act f ≡ act.Finished

pub ended : (s : State) (plan : Plan) (taken : ℕ) → is_planned plan ≡ true → s.out ≡ None → is_finished (floor s plan taken) ≡ true → IsSound s → KeepsToPlan plan s taken → IsEnded (floor s plan taken)
ended s Free taken p o f sound run = cc
ended s (Rows work n) taken p o f sound run = record { trace = trace; taken = all; next = next }
  where
    rows : settled_by work s ≡ s.rows
    rows = settled_none work s o

    full : begun s ≡ n
    full = eqb-true (begun s) n f

    trace : IsTheTrace s.set s.rule work n s.rows
    trace = only_trace s.set s.rule work n s.rows sound.tasks.each sound.fits run.schedule.is_work run.schedule.some sound.good.legal (subst (λ (g : List Row). Runs s.set s.rule work n g) rows run.runs) (omega (arith, full, begun_none s o))

    all : taken ≡ length (planned work n)
    all = run.taken_are ∙ (ap (λ (g : List Row). length (arrivals g)) rows ∙ (sym (length-reverse (arrivals s.rows)) ∙ ap (λ (xs : List Arrival). length xs) trace.follows.releases))

    next : next_act (floor s (Rows work n) taken) ≡ act.Finished
    next =
        is_over (due (floor s (Rows work n) taken)) s.out (is_finished (floor s (Rows work n) taken)) (chosen_now s)
        (rw (le-ltb (begun s) n (omega (arith, full))) refl) o f
