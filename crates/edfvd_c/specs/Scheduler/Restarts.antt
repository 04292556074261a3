-- What a restart of a scheduler returns and leaves.
use Rattle.std.specs.Prelude.{◌≡◌, ◌⊎◌, Option, Some, IsSomeAnd, MatchOption, ℕ}
use Rattle.restart.specs.declared.restartable.RestartFault.{RestartFault}
use Rattle.restart.specs.declared.restartable.RestartFault.TheVariants as restart_fault
use Rattle.restart.specs.Restarted.{Restarted, IsRestarted, restart_refusal}
use Rattle.edfvd_c.specs.declared.scheduler.event.CAnswer.{CAnswer}
use Rattle.edfvd_c.specs.Scheduler.Event.{Returned, nothing, of_job}
use Rattle.edfvd_c.specs.Status.{OK, MEMORY, TICK_OUT, PENDING}

-- a restart that is refused: TICK_OUT with the job whose tick is in progress, PENDING with the chosen job, or MEMORY
abbrev pub returned_fault : RestartFault → Returned
returned_fault (restart_fault.TickOut j) = (TICK_OUT, of_job 0 j 0 0)
returned_fault (restart_fault.Pending j) = (PENDING, of_job 0 j 0 0)
returned_fault restart_fault.Memory = (MEMORY, nothing)

-- a restart that can fail only for lack of memory: the scheduler is restarted, or it is as before
abbrev pub IsRestartedOrUnchanged : Restarted → Option Restarted → ℕ → Type 0
IsRestartedOrUnchanged before new status =
    ((status ≡ OK) × IsSomeAnd new (IsRestarted before)) ⊎ ((status ≡ MEMORY) × (new ≡ Some before))

-- a restart of an open scheduler: if a tick is in progress or a job is pending it is refused, and nothing changes
abbrev pub Restarts : Restarted → Option Restarted → ℕ → CAnswer → Type 0
Restarts before new status answer =
    MatchOption (restart_refusal before.core) (IsRestartedOrUnchanged before new status × (answer ≡ nothing))
    (λ fault. (new ≡ Some before) × (status ≡ (returned_fault fault).0) × (answer ≡ (returned_fault fault).1))
