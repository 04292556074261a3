-- The calls of a core with capacity for four rows, in turn, and of one with capacity for one row.
use Rattle.std.proofs.Common.{◌≡◌, ℕ, true, false, List, [], ◌∷◌, Some, None, Ok, Err, codes, refl}
use Rattle.mc_task.specs.declared.task.Level.{Level}
use Rattle.mc_task.specs.declared.task.Level.TheVariants.{Low, High}
use Rattle.mc_task.specs.declared.task.Rule.TheVariants.{Virtual}
use Rattle.mc_task.specs.declared.task.Task.{Task}
use Rattle.mc_task.specs.declared.task.JobId.{JobId}
use Rattle.mc_model.specs.declared.row.How.TheVariants.{More, Over}
use Rattle.mode_core.specs.declared.answers.Released.TheVariants.{Kept, Dropped, Held}
use Rattle.mode_core.specs.declared.answers.ReleaseFault.TheVariants as release_fault
use Rattle.mode_core.specs.declared.answers.GrantFault.TheVariants as grant_fault
use Rattle.mode_core.specs.declared.answers.IdleFault.TheVariants as idle_fault
use Rattle.mode_core.specs.Events.{empty_state, release_answer, after_release, grant_answer, after_grant, outcome_answer, after_outcome, idle_answer, after_idle}
use Rattle.mc_model.specs.Core.{State}

-- a task
abbrev task : List ℕ → Level → ℕ → ℕ → ℕ → Task
task name level period low high = record { name = name; level = level; period = period; low = low; high = high }

-- a core with this capacity and no rows
abbrev fresh : ℕ → State
fresh places = empty_state (task (codes "ctl") High 10 2 6 ∷ task (codes "log") Low 10 5 5 ∷ []) (Virtual 2 5) places

-- a job
abbrev job : ℕ → ℕ → JobId
job k c = record { task = record { 0 = k }; count = c }

-- the first tick is idle
idle_first : idle_answer (fresh 4) ≡ Ok 0
idle_first = refl

-- the core after an idle tick
abbrev s1 : State
s1 = after_idle (fresh 4)

-- a release is kept
kept : release_answer s1 1 ≡ Ok (Kept (job 1 1) 1)
kept = refl

-- the core after the idle tick and a release of task 1
abbrev s2 : State
s2 = after_release s1 1

-- the next release of task 1 is too soon before boundary 11
too_soon : release_answer s2 1 ≡ Err (release_fault.TooSoon 11)
too_soon = refl

-- task 2 gets no tick while the chosen job is of task 1
not_chosen : grant_answer s2 2 ≡ Err (grant_fault.NotChosen (Some (job 1 1)))
not_chosen = refl

-- an outcome is refused if no tick is granted
not_out : outcome_answer s2 (job 1 1) true ≡ Err (record { given = job 1 1; out = None })
not_out = refl

-- task 1 gets a tick, since the chosen job is its job
given : grant_answer s2 1 ≡ Ok (record { job = job 1 1; at = 1; before = 0 })
given = refl

-- the core with a granted tick of task 1
abbrev s3 : State
s3 = after_grant s2 1

-- no second tick is granted while the first has no outcome
tick_out : grant_answer s3 1 ≡ Err (grant_fault.TickOut (job 1 1))
tick_out = refl

-- no tick is idle while one is granted
idle_out : idle_answer s3 ≡ Err (idle_fault.TickOut (job 1 1))
idle_out = refl

-- task 1 is not released again while its tick has no outcome
is_running : release_answer s3 1 ≡ Err (release_fault.Running (job 1 1))
is_running = refl

-- a release of task 2 is held while a tick of task 1 is granted
held : release_answer s3 2 ≡ Ok (Held (job 2 1) 2)
held = refl

-- the core with a granted tick of task 1 and a held release of task 2
abbrev s4 : State
s4 = after_release s3 2

-- the granted tick ends with the outcome More
more : outcome_answer s4 (job 1 1) false ≡ Ok More
more = refl

-- the core after the outcome, which adds the row of the tick and the row of the held release
abbrev s5 : State
s5 = after_outcome s4 (job 1 1) false

-- no tick is idle while a job is pending
is_pending : idle_answer s5 ≡ Err (idle_fault.Pending (job 1 1))
is_pending = refl

-- no tick is granted if four of four rows are used
full : grant_answer s5 1 ≡ Err grant_fault.Full
full = refl

-- a core with capacity for one row takes one row
one_place : (release_answer (after_idle (fresh 1)) 1 ≡ Err release_fault.Full) × (idle_answer (after_idle (fresh 1)) ≡ Err idle_fault.Full)
one_place = (refl, refl)

-- a core with capacity for nine rows after a release of task 1
abbrev a2 : State
a2 = after_release (fresh 9) 1

-- the core after the first tick of the job of task 1
abbrev a3 : State
a3 = after_outcome (after_grant a2 1) (job 1 1) false

-- the core with a granted second tick of the job of task 1
abbrev a4 : State
a4 = after_grant a3 1

-- a release of task 2 before the outcome Over is held
early : (release_answer a4 2 ≡ Ok (Held (job 2 1) 2)) × (outcome_answer (after_release a4 2) (job 1 1) false ≡ Ok Over)
early = (refl, refl)

-- a release of task 2 after the outcome Over is dropped
late : release_answer (after_outcome a4 (job 1 1) false) 2 ≡ Ok (Dropped (job 2 1) 2)
late = refl

-- a release of task 2 before the outcome Over leaves the same rows as a release after it
same_rows : (after_outcome (after_release a4 2) (job 1 1) false).rows ≡ (after_release (after_outcome a4 (job 1 1) false) 2).rows
same_rows = refl
