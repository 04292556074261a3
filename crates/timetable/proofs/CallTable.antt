-- The calls of a floor in turn: one whose plan is four ticks of a set of two tasks, and one with a free plan.
use Rattle.std.proofs.Common.{◌≡◌, ℕ, true, false, List, [], ◌∷◌, Ok, Err, codes, refl}
use Rattle.mc_task.specs.declared.task.Level.{Level}
use Rattle.mc_task.specs.declared.task.Level.TheVariants.{Low, High}
use Rattle.mc_task.specs.declared.task.Rule.TheVariants.{Virtual}
use Rattle.mc_task.specs.declared.task.Task.{Task}
use Rattle.mc_task.specs.declared.task.TaskNo.{TaskNo}
use Rattle.mc_task.specs.declared.task.JobId.{JobId}
use Rattle.mc_model.specs.declared.row.How.TheVariants.{More, Over}
use Rattle.mc_model.specs.declared.row.Row.TheVariants.{Release, Tick}
use Rattle.mc_model.specs.declared.work.WorkRow.{WorkRow}
use Rattle.mode_core.specs.declared.answers.Released.TheVariants.{Kept, Held}
use Rattle.mode_core.specs.declared.answers.ReleaseFault.TheVariants as release_fault
use Rattle.mode_core.specs.Events.{empty_state}
use Rattle.timetable.specs.declared.plan.Plan.{Plan}
use Rattle.timetable.specs.declared.plan.Plan.TheVariants.{Free, Rows}
use Rattle.timetable.specs.declared.acts.PlanFault.TheVariants as plan_fault
use Rattle.timetable.specs.declared.acts.ActFault.TheVariants as act_fault
use Rattle.timetable.specs.declared.acts.Act.{Act}
use Rattle.timetable.specs.declared.acts.Act.TheVariants as act
use Rattle.timetable.specs.Floor.{FloorState, opening, release_answer, after_release, grant_answer, after_grant, idle_answer, after_idle, outcome_answer, after_outcome, next_act}

-- a task
abbrev task : List ℕ → Level → ℕ → ℕ → ℕ → Task
task name level period low high = record { name = name; level = level; period = period; low = low; high = high }

-- a task's number
abbrev no : ℕ → TaskNo
no k = record { 0 = k }

-- the job of a task with this number
abbrev job : ℕ → ℕ → JobId
job k c = record { task = no k; count = c }

-- a row of the work
abbrev work_row : ℕ → ℕ → ℕ → WorkRow
work_row k r n = record { task = no k; release = r; need = n }

-- a floor with a plan
abbrev fresh : Plan → FloorState
fresh plan = opening (empty_state (task (codes "ctl") High 10 2 6 ∷ task (codes "log") Low 10 5 5 ∷ []) (Virtual 2 5) 9) plan

-- the floor at the start: the first job is due at 0 and needs 6 ticks; the other is due at 2
abbrev f0 : FloorState
f0 = fresh (Rows (work_row 1 0 6 ∷ work_row 2 2 5 ∷ []) 4)

-- at the start the release of task 1 is the next act, and no other call is allowed
first_release : next_act f0 ≡ act.Release (no 1)
first_release = refl

no_tick : (grant_answer f0 1 ≡ Err (act_fault.Plan (plan_fault.Due (no 1)))) × (idle_answer f0 ≡ Err (act_fault.Plan (plan_fault.Due (no 1))))
no_tick = (refl, refl)

no_other : release_answer f0 2 ≡ Err (act_fault.Plan (plan_fault.Due (no 1)))
no_other = refl

kept : release_answer f0 1 ≡ Ok (Kept (job 1 1) 0)
kept = refl

-- the floor after the first release
abbrev f1 : FloorState
f1 = after_release f0 1

-- after the first release a tick of task 1 is the next act, and no release is planned
first_grant : (next_act f1 ≡ act.Grant (no 1)) × (release_answer f1 2 ≡ Err (act_fault.Plan plan_fault.NotPlanned))
first_grant = (refl, refl)

-- the floor with the second tick of task 1 granted; that the caller says the job is done is ignored
abbrev f2 : FloorState
f2 = after_grant (after_outcome (after_grant f1 1) (job 1 1) true) 1

-- at boundary 2 the release of task 2 is due
second_release : (next_act f2 ≡ act.Release (no 2)) × (grant_answer f2 2 ≡ Err (act_fault.Plan (plan_fault.Due (no 2))))
second_release = (refl, refl)

-- the floor after the release of task 2, which is held
abbrev f3 : FloorState
f3 = after_release f2 2

held : (release_answer f2 2 ≡ Ok (Held (job 2 1) 2)) × (next_act f3 ≡ act.Wait (job 1 1))
held = (refl, refl)

-- the outcome of the second tick is an overrun
over : outcome_answer f3 (job 1 1) true ≡ Ok Over
over = refl

-- the floor after an act; a job with a granted tick gets an outcome
abbrev act_on : Act → FloorState → FloorState
act_on (act.Release k) f = after_release f k.0
act_on (act.Grant k) f = after_grant f k.0
act_on act.Idle f = after_idle f
act_on (act.Wait j) f = after_outcome f j true
act_on act.Finished f = f

abbrev once : FloorState → FloorState
once f = act_on (next_act f) f

-- the floor after the outcome of the second tick, and two more ticks with their outcomes
abbrev f4 : FloorState
f4 = once (once (once (once (once f3))))

-- the plan is finished after its four ticks
finished : (next_act f4 ≡ act.Finished) × (idle_answer f4 ≡ Err (act_fault.Plan plan_fault.Finished)) × (grant_answer f4 1 ≡ Err (act_fault.Plan plan_fault.Finished))
finished = (refl, refl, refl)

rows : f4.core.rows ≡ Tick (job 1 1) More ∷ Tick (job 1 1) More ∷ Release (job 2 1) false ∷ Tick (job 1 1) Over ∷ Tick (job 1 1) More ∷ Release (job 1 1) true ∷ []
rows = refl

-- a floor on which a due release waits while its task has a granted tick: the core's result, and the next act
abbrev g0 : FloorState
g0 = after_grant (after_release (fresh (Rows (work_row 1 0 6 ∷ work_row 1 1 1 ∷ []) 4)) 1) 1

waits : (release_answer g0 1 ≡ Err (act_fault.Core (release_fault.Running (job 1 1)))) × (next_act g0 ≡ act.Wait (job 1 1))
waits = (refl, refl)

-- under a free plan every release is the core's, and no act is the last
free : (release_answer (fresh Free) 2 ≡ Ok (Kept (job 2 1) 0)) × (idle_answer (fresh Free) ≡ Ok 0) × (next_act (after_idle (fresh Free)) ≡ act.Idle) × ((after_release (fresh Free) 2).taken ≡ 0)
free = (refl, refl, refl, refl)
