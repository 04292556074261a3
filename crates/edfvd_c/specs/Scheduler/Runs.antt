-- What a run, idle ticks and the next boundary return through a call, and what is read of a task.
use Rattle.std.specs.Prelude.{ℕ, ◌^◌, ◌/◌, ◌%◌, Option, Some, None, Result, Ok, Err, Bool, ◌==◌, if◌then◌else◌}
use Rattle.mc_task.specs.declared.task.JobId.{JobId}
use Rattle.mc_task.specs.declared.task.Rule.{Rule}
use Rattle.mc_task.specs.declared.task.Rule.TheVariants.{Plain, Virtual}
use Rattle.mc_model.specs.declared.row.How.{How}
use Rattle.mc_model.specs.Core.{State}
use Rattle.restart.specs.Restarted.{Restarted, earliest}
use Rattle.mode_core.specs.declared.answers.Boundary.{Boundary}
use Rattle.mode_core.specs.declared.answers.PendingJob.{PendingJob}
use Rattle.mode_core.specs.declared.answers.RunFault.{RunFault}
use Rattle.mode_core.specs.declared.answers.RunFault.TheVariants as run_fault
use Rattle.mode_core.specs.Runs.{run_answer, after_run, idles_answer, after_idle_for, boundary_of}
use Rattle.mode_core.specs.PendingJob.{pending_job}
use Rattle.mode_core.specs.Discarded.{discarded}
use Rattle.edfvd_c.specs.declared.scheduler.runs.CNext.{CNext}
use Rattle.edfvd_c.specs.declared.scheduler.runs.CPending.{CPending}
use Rattle.edfvd_c.specs.declared.scheduler.runs.CScale.{CScale}
use Rattle.edfvd_c.specs.Row.{job_of, how_number, count_number}
use Rattle.edfvd_c.specs.Scheduler.Event.{Returned, nothing, at_tick, of_job, of_some, returned_idle, is_in}
use Rattle.edfvd_c.specs.Status.{OK, NO_TASK, FULL, TICK_OUT, NOT_CHOSEN, PAST, ARGUMENT}

-- a run with how its last tick ended, or why it is refused: TICK_OUT while a tick is in progress, NOT_CHOSEN with the chosen job,
-- PAST with the ticks up to the job's boundary, FULL if too little capacity is left
abbrev pub returned_run : JobId → Result How RunFault → Returned
returned_run j (Ok h) = (OK, of_job (how_number h) j 0 0)
returned_run j (Err (run_fault.TickOut i)) = (TICK_OUT, of_job 0 i 0 0)
returned_run j (Err (run_fault.NotChosen chosen)) = (NOT_CHOSEN, of_some chosen)
returned_run j (Err (run_fault.Past most)) = (PAST, at_tick 0 most)
returned_run j (Err run_fault.Full) = (FULL, nothing)

-- what a run of the job with these numbers returns: ARGUMENT for no tick
abbrev pub run_returns : State → ℕ → ℕ → ℕ → Bool → Returned
run_returns s k n ticks done =
    if ticks == 0 then (ARGUMENT, nothing) else returned_run (job_of k n) (run_answer s (job_of k n) ticks done)

-- the state after a run of the job with these numbers
abbrev pub run_after : State → ℕ → ℕ → ℕ → Bool → State
run_after s k n ticks done = if ticks == 0 then s else after_run s (job_of k n) ticks done

-- what idle ticks return: ARGUMENT for no tick
abbrev pub idle_for_returns : State → ℕ → Returned
idle_for_returns s ticks = if ticks == 0 then (ARGUMENT, nothing) else returned_idle (idles_answer s ticks)

-- the state after idle ticks
abbrev pub idle_for_after : State → ℕ → State
idle_for_after s ticks = if ticks == 0 then s else after_idle_for s ticks

-- the chosen job and the ticks that it may run, in numbers: all 0 if no job is pending
abbrev pub next_numbers : Option Boundary → CNext
next_numbers None = record { task = 0; count = 0; ticks = 0 }
next_numbers (Some b) = record { task = b.job.task.0; count = b.job.count; ticks = b.ticks }

-- a pending job in numbers, its key as top * 2^64 + rest: all 0 if there is none
abbrev pub pending_numbers : Option PendingJob → CPending
pending_numbers None =
    record { task = 0; count = 0; used = 0; release = 0; deadline = 0; key_top = 0; key = 0 }
pending_numbers (Some p) = record {
  task = p.job.task.0;
  count = p.job.count;
  used = p.used;
  release = p.release;
  deadline = p.deadline;
  key_top = p.key / 2 ^ 64;
  key = p.key % 2 ^ 64;
}

-- the scale of a rule: 0 and 0 under plain EDF
abbrev pub scale_numbers : Rule → CScale
scale_numbers Plain = record { p = 0; q = 0 }
scale_numbers (Virtual p q) = record { p = p; q = q }

-- what is returned for the chosen job's boundary
abbrev pub next_returns : State → ℕ × CNext
next_returns s = (OK, next_numbers (boundary_of s))

-- what is returned for the task's pending job: NO_TASK if no task has the number
abbrev pub pending_returns : State → ℕ → ℕ × CPending
pending_returns s k = if is_in s k then (OK, pending_numbers (pending_job s k)) else (NO_TASK, pending_numbers None)

-- what is returned for the task's earliest next release: NO_TASK if no task has the number
abbrev pub earliest_returns : Restarted → ℕ → ℕ × ℕ
earliest_returns s k = if is_in s.core k then (OK, earliest s k) else (NO_TASK, 0)

-- what is returned for the task's job that the latest overrun discarded: NO_TASK if no task has the number
abbrev pub discarded_returns : State → ℕ → ℕ × ℕ
discarded_returns s k = if is_in s k then (OK, count_number (discarded s.set s.rows k)) else (NO_TASK, 0)

-- what is returned for the scale in force
abbrev pub scale_returns : State → ℕ × CScale
scale_returns s = (OK, scale_numbers s.rule)
