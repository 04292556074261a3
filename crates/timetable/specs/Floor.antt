-- A floor is a core with a plan: when the plan refuses a call, what each call returns, the state after it,
-- and the next act.
use Rattle.std.specs.Prelude.{ℕ, ◌+◌, Bool, true, false, not, List, Option, Some, None, Result, Ok, Err, cond, nat_lt, ◌==◌, slice_get, option_map}
use Rattle.std.specs.Option.{option_or}
use Rattle.mc_task.specs.declared.task.JobId.{JobId}
use Rattle.mc_model.specs.declared.row.How.{How}
use Rattle.mc_model.specs.declared.row.Row.{Row}
use Rattle.mc_model.specs.declared.work.WorkRow.{WorkRow}
use Rattle.mc_model.specs.Core.{State, begun}
use Rattle.mode_core.specs.declared.answers.Released.{Released}
use Rattle.mode_core.specs.declared.answers.Granted.{Granted}
use Rattle.mode_core.specs.declared.answers.NotOut.{NotOut}
use Rattle.mode_core.specs.declared.answers.ReleaseFault.{ReleaseFault}
use Rattle.mode_core.specs.declared.answers.GrantFault.{GrantFault}
use Rattle.mode_core.specs.declared.answers.IdleFault.{IdleFault}
use Rattle.mode_core.specs.Events
use Rattle.mode_core.specs.Events.{refused_if, running, chosen_now}
use Rattle.timetable.specs.declared.plan.Plan.{Plan}
use Rattle.timetable.specs.declared.plan.Plan.TheVariants.{Free, Rows}
use Rattle.timetable.specs.declared.acts.PlanFault.{PlanFault}
use Rattle.timetable.specs.declared.acts.PlanFault.TheVariants as plan_fault
use Rattle.timetable.specs.declared.acts.ActFault.{ActFault}
use Rattle.timetable.specs.declared.acts.ActFault.TheVariants as act_fault
use Rattle.timetable.specs.declared.acts.Act.{Act}
use Rattle.timetable.specs.declared.acts.Act.TheVariants as act
use Rattle.timetable.specs.Ticks.{is_last}

-- a core, its plan, and how many of the plan's releases were taken
pub record FloorState : Type 0 where
  pub core : State
  pub plan : Plan
  pub taken : ℕ

-- a core with its plan, of which no release was taken
abbrev pub opening : State → Plan → FloorState
opening s plan = record { core = s; plan = plan; taken = 0 }

-- whether there is work to follow
abbrev pub is_planned : Plan → Bool
is_planned Free = false
is_planned (Rows work n) = true

-- the row, if it is released at boundary t
abbrev pub due_row : Option WorkRow → ℕ → Option WorkRow
due_row None t = None
due_row (Some w) t = cond (w.release == t) (Some w) None

-- the next release of a plan of which n were taken, if it is at boundary t and the plan has a tick t
abbrev pub due_at : Plan → ℕ → ℕ → Option WorkRow
due_at Free taken t = None
due_at (Rows work n) taken t = cond (nat_lt t n) (due_row (slice_get work taken) t) None

-- the due release: the plan's first that was not taken, if its time is the number of ticks begun, and that is
-- below the plan's ticks
abbrev pub due : FloorState → Option WorkRow
due f = due_at f.plan f.taken (begun f.core)

-- whether the plan ends at boundary t: it has t ticks
abbrev pub ends_at : Plan → ℕ → Bool
ends_at Free t = false
ends_at (Rows work n) t = t == n

-- whether all ticks of the plan were begun
abbrev pub is_finished : FloorState → Bool
is_finished f = ends_at f.plan (begun f.core)

-- whether the job is done with its next tick: under a free plan as the caller says, otherwise by the job's
-- need
abbrev pub done_by : Plan → List Row → JobId → Bool → Bool
done_by Free g j claimed = claimed
done_by (Rows work n) g j claimed = is_last work g j

-- why a plan refuses a release of task number k, by the release that is due: none is, or one of another task
-- is
abbrev pub not_due : Plan → Option WorkRow → ℕ → Option PlanFault
not_due Free now k = None
not_due (Rows work n) None k = Some plan_fault.NotPlanned
not_due (Rows work n) (Some w) k = refused_if (not (w.task.0 == k)) (plan_fault.Due w.task)

-- why the plan refuses a release of task number k
abbrev pub release_refusal : FloorState → ℕ → Option PlanFault
release_refusal f k = not_due f.plan (due f) k

-- why the plan refuses a tick, granted or idle: a release is due, or the plan's ticks were begun
abbrev pub tick_refusal : FloorState → Option PlanFault
tick_refusal f =
    option_or (option_map (λ (w : WorkRow). plan_fault.Due w.task) (due f))
    (refused_if (is_finished f) plan_fault.Finished)

-- the core's result, as the floor's
abbrev pub of_core : {T F : Type 0} → Result T F → Result T (ActFault F)
of_core (Ok x) = Ok x
of_core (Err e) = Err (act_fault.Core e)

-- the plan's refusal, if any; otherwise the core's result
abbrev pub plan_answer : {T F : Type 0} → Option PlanFault → Result T F → Result T (ActFault F)
plan_answer (Some e) r = Err (act_fault.Plan e)
plan_answer None r = of_core r

-- the floor after a call; as it was before, if the plan refuses the call
abbrev pub floor_unless : Option PlanFault → FloorState → FloorState → FloorState
floor_unless (Some e) after before = before
floor_unless None after before = after

-- how many of the plan's releases a call of `release` takes
abbrev pub takes : Plan → Result Released ReleaseFault → ℕ
takes Free r = 0
takes (Rows work n) (Ok x) = 1
takes (Rows work n) (Err e) = 0

-- what a release of task number k returns
abbrev pub release_answer : FloorState → ℕ → Result Released (ActFault ReleaseFault)
release_answer f k = plan_answer (release_refusal f k) (Events.release_answer f.core k)

-- the floor after a release of task number k that the plan does not refuse
abbrev pub releasing : FloorState → ℕ → FloorState
releasing f k = record f {
  core = Events.after_release f.core k;
  taken = f.taken + takes f.plan (Events.release_answer f.core k);
}

-- the floor after a release of task number k
abbrev pub after_release : FloorState → ℕ → FloorState
after_release f k = floor_unless (release_refusal f k) (releasing f k) f

-- what a grant to task number k returns
abbrev pub grant_answer : FloorState → ℕ → Result Granted (ActFault GrantFault)
grant_answer f k = plan_answer (tick_refusal f) (Events.grant_answer f.core k)

-- the floor after a grant to task number k
abbrev pub after_grant : FloorState → ℕ → FloorState
after_grant f k = floor_unless (tick_refusal f) (record f { core = Events.after_grant f.core k }) f

-- what an outcome of the job returns
abbrev pub outcome_answer : FloorState → JobId → Bool → Result How NotOut
outcome_answer f j claimed = Events.outcome_answer f.core j (done_by f.plan f.core.rows j claimed)

-- the floor after an outcome of the job
abbrev pub after_outcome : FloorState → JobId → Bool → FloorState
after_outcome f j claimed =
    record f { core = Events.after_outcome f.core j (done_by f.plan f.core.rows j claimed) }

-- what an idle tick returns
abbrev pub idle_answer : FloorState → Result ℕ (ActFault IdleFault)
idle_answer f = plan_answer (tick_refusal f) (Events.idle_answer f.core)

-- the floor after an idle tick
abbrev pub after_idle : FloorState → FloorState
after_idle f = floor_unless (tick_refusal f) (record f { core = Events.after_idle f.core }) f

-- the release of the task that is due, unless that task has a granted tick
abbrev pub release_act : Option WorkRow → Option JobId → Option Act
release_act None out = None
release_act (Some w) out = elim (running out w.task.0) [ None ↦ Some (act.Release w.task) | Some j ↦ None ]

-- a tick of the chosen job, or an idle one
abbrev pub tick_act : Option JobId → Act
tick_act None = act.Idle
tick_act (Some j) = act.Grant j.task

-- the first act if there is one, otherwise the second
abbrev pub act_or : Option Act → Act → Act
act_or None later = later
act_or (Some a) later = a

-- the next act, the first that applies: the due release unless its task has a granted tick; waiting for the
-- outcome of the granted tick; nothing once the plan's ticks were begun; a tick of the chosen job; an idle
-- tick
abbrev pub next_act : FloorState → Act
next_act f =
    act_or (release_act (due f) f.core.out)
    (act_or (option_map act.Wait f.core.out)
    (cond (is_finished f) act.Finished (tick_act (chosen_now f.core))))
