-- What an event through a call returns: a status, and what came of it.
use Rattle.std.specs.Prelude.{ℕ, Option, Some, None, Result, Ok, Err, Bool, nat_le, ◌&&◌}
use Rattle.std.specs.Prelude.{if◌then◌else◌, length}
use Rattle.mc_task.specs.declared.task.JobId.{JobId}
use Rattle.mc_model.specs.declared.row.How.{How}
use Rattle.mc_model.specs.Core.{State}
use Rattle.mode_core.specs.declared.answers.Released.{Released}
use Rattle.mode_core.specs.declared.answers.Released.TheVariants as released
use Rattle.mode_core.specs.declared.answers.Granted.{Granted}
use Rattle.mode_core.specs.declared.answers.NotOut.{NotOut}
use Rattle.mode_core.specs.declared.answers.ReleaseFault.{ReleaseFault}
use Rattle.mode_core.specs.declared.answers.ReleaseFault.TheVariants as release_fault
use Rattle.mode_core.specs.declared.answers.GrantFault.{GrantFault}
use Rattle.mode_core.specs.declared.answers.GrantFault.TheVariants as grant_fault
use Rattle.mode_core.specs.declared.answers.IdleFault.{IdleFault}
use Rattle.mode_core.specs.declared.answers.IdleFault.TheVariants as idle_fault
use Rattle.mode_core.specs.Events.{grant_answer, outcome_answer, idle_answer, after_grant, after_outcome}
use Rattle.restart.specs.Restarted.{Restarted, release_answer, after_release}
use Rattle.edfvd_c.specs.declared.scheduler.event.CAnswer.{CAnswer}
use Rattle.edfvd_c.specs.EventNumbers.{KEPT, DROPPED, HELD, GIVEN, IDLE}
use Rattle.edfvd_c.specs.Row.{how_number, job_of}
use Rattle.edfvd_c.specs.Status.{OK, NO_TASK, RUNNING, TOO_SOON, FULL, TICK_OUT, NOT_CHOSEN, NOT_OUT, PENDING}

-- a status with an answer
abbrev pub Returned : Type 0
Returned = ℕ × CAnswer

-- an answer with a job, and what came of it at a tick
abbrev pub of_job : ℕ → JobId → ℕ → ℕ → CAnswer
of_job what j before at = record { what = what; task = j.task.0; count = j.count; before = before; at = at }

-- an answer without a job: what came of an event at a tick
abbrev pub at_tick : ℕ → ℕ → CAnswer
at_tick what at = record { what = what; task = 0; count = 0; before = 0; at = at }

-- an answer with no job and no tick
abbrev pub nothing : CAnswer
nothing = at_tick 0 0

-- an answer with the job, if there is one
abbrev pub of_some : Option JobId → CAnswer
of_some None = nothing
of_some (Some j) = of_job 0 j 0 0

-- what came of a release: it was kept, dropped or held
abbrev pub of_released : Released → CAnswer
of_released (released.Kept j at) = of_job KEPT j 0 at
of_released (released.Dropped j at) = of_job DROPPED j 0 at
of_released (released.Held j at) = of_job HELD j 0 at

-- a release, or why it is refused: RUNNING while a tick of the job is in progress, TOO_SOON with the first tick that is not too
-- soon, FULL if no capacity is left
abbrev pub returned_release : Result Released ReleaseFault → Returned
returned_release (Ok r) = (OK, of_released r)
returned_release (Err (release_fault.Running j)) = (RUNNING, of_job 0 j 0 0)
returned_release (Err (release_fault.TooSoon next)) = (TOO_SOON, at_tick 0 next)
returned_release (Err release_fault.Full) = (FULL, nothing)

-- a grant with the ticks that the job has had, or why it is refused: TICK_OUT while a tick is in progress, NOT_CHOSEN with the
-- chosen job, FULL if no capacity is left
abbrev pub returned_grant : Result Granted GrantFault → Returned
returned_grant (Ok g) = (OK, of_job GIVEN g.job g.before g.at)
returned_grant (Err (grant_fault.TickOut j)) = (TICK_OUT, of_job 0 j 0 0)
returned_grant (Err (grant_fault.NotChosen chosen)) = (NOT_CHOSEN, of_some chosen)
returned_grant (Err grant_fault.Full) = (FULL, nothing)

-- an outcome, or NOT_OUT with the job that has the tick in progress
abbrev pub returned_outcome : JobId → Result How NotOut → Returned
returned_outcome j (Ok h) = (OK, of_job (how_number h) j 0 0)
returned_outcome j (Err e) = (NOT_OUT, of_some e.out)

-- an idle tick, or why it is refused: TICK_OUT while a tick is in progress, PENDING with a pending job, FULL if no capacity is left
abbrev pub returned_idle : Result ℕ IdleFault → Returned
returned_idle (Ok at) = (OK, at_tick IDLE at)
returned_idle (Err (idle_fault.TickOut j)) = (TICK_OUT, of_job 0 j 0 0)
returned_idle (Err (idle_fault.Pending j)) = (PENDING, of_job 0 j 0 0)
returned_idle (Err idle_fault.Full) = (FULL, nothing)

-- a task of this number is in the set
abbrev pub is_in : State → ℕ → Bool
is_in s k = nat_le 1 k && nat_le k (length s.set)

-- what a release by this number returns: NO_TASK if no task has it
abbrev pub release_returns : Restarted → ℕ → Returned
release_returns s k = if is_in s.core k then returned_release (release_answer s k) else (NO_TASK, nothing)

-- the scheduler after a release by this number
abbrev pub release_after : Restarted → ℕ → Restarted
release_after s k = if is_in s.core k then after_release s k else s

-- the scheduler after an event that changes only its state since its counts began
abbrev pub with_core : Restarted → State → Restarted
with_core s core = record s { core = core }

-- what a grant by this number returns: NO_TASK if no task has it
abbrev pub grant_returns : State → ℕ → Returned
grant_returns s k = if is_in s k then returned_grant (grant_answer s k) else (NO_TASK, nothing)

-- the state after a grant by this number
abbrev pub grant_after : State → ℕ → State
grant_after s k = if is_in s k then after_grant s k else s

-- what an outcome returns for the job with these numbers
abbrev pub outcome_returns : State → ℕ → ℕ → Bool → Returned
outcome_returns s k n done = returned_outcome (job_of k n) (outcome_answer s (job_of k n) done)

-- the state after an outcome for the job with these numbers
abbrev pub outcome_after : State → ℕ → ℕ → Bool → State
outcome_after s k n done = after_outcome s (job_of k n) done

-- what an idle tick returns
abbrev pub idle_returns : State → Returned
idle_returns s = returned_idle (idle_answer s)
