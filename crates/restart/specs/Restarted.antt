-- A scheduler whose counts may have started anew: the opened core, with the earliest releases kept.
use Rattle.std.specs.Prelude.{◌≡◌, ℕ, ◌-◌, List, Option, Some, None, Result, max, nat_lt, option_map, length, replicate, slice_index_or}
use Rattle.std.specs.Option.{option_or}
use Rattle.mc_task.specs.TaskSet.{IsIn}
use Rattle.mc_model.specs.Rows.{ticks}
use Rattle.mc_model.specs.Core.{State, begun, next, next_job}
use Rattle.mode_core.specs.declared.answers.Released.{Released}
use Rattle.mode_core.specs.declared.answers.ReleaseFault.{ReleaseFault}
use Rattle.mode_core.specs.declared.answers.ReleaseFault.TheVariants as release_fault
use Rattle.mode_core.specs.Events.{empty_state, refused_if, answer, running, is_spent, taken, with_release, chosen_now}
use Rattle.restart.specs.declared.restartable.RestartFault.{RestartFault}
use Rattle.restart.specs.declared.restartable.RestartFault.TheVariants.{TickOut, Pending}

-- the core since the counts began, and for each task the boundary from which its first release since then is allowed
pub record Restarted : Type 0 where
  pub core : State
  pub first_allowed : List ℕ

-- the boundary from which the first release of task number k since the counts began is allowed
abbrev pub first_allowed_of : Restarted → ℕ → ℕ
first_allowed_of s k = slice_index_or s.first_allowed (k - 1) 0

-- an opened scheduler: the core has had no event, and no release is too soon
abbrev pub opened : State → Restarted
opened core = record { core = core; first_allowed = replicate (length core.set) 0 }

-- the earliest next release of task number k: a period after its last release since the counts began, and not before
-- the boundary from which its first one is allowed
abbrev pub earliest : Restarted → ℕ → ℕ
earliest s k = max (next s.core k) (first_allowed_of s k)

-- why a release of task number k is refused, whatever the capacity: the task has a granted tick, or the release is
-- before its earliest next release
abbrev pub timing_refusal : Restarted → ℕ → Option ReleaseFault
timing_refusal s k =
    option_or (option_map release_fault.Running (running s.core.out k))
    (refused_if (nat_lt (begun s.core) (earliest s k)) (release_fault.TooSoon (earliest s k)))

-- why a release of task number k is refused: the task has a granted tick, the release is before its earliest next
-- release, or no capacity or number is left
abbrev pub release_refusal : Restarted → ℕ → Option ReleaseFault
release_refusal s k =
    option_or (option_map release_fault.Running (running s.core.out k))
    (option_or (refused_if (nat_lt (begun s.core) (earliest s k)) (release_fault.TooSoon (earliest s k)))
    (refused_if (is_spent s.core k) release_fault.Full))

-- what a release of task number k returns
abbrev pub release_answer : Restarted → ℕ → Result Released ReleaseFault
release_answer s k = answer (release_refusal s k) (taken s.core s.core.out k)

-- the scheduler after a release that may be refused
abbrev pub released_unless : Option ReleaseFault → Restarted → ℕ → Restarted
released_unless None s k = record s { core = with_release s.core s.core.out (next_job s.core k) }
released_unless (Some fault) s k = s

-- the scheduler after a release of task number k
abbrev pub after_release : Restarted → ℕ → Restarted
after_release s k = released_unless (release_refusal s k) s k

-- why the counts cannot start anew, even if no allocation fails: a tick is granted, or a job is pending
abbrev pub restart_refusal : State → Option RestartFault
restart_refusal s = option_or (option_map TickOut s.out) (option_map Pending (chosen_now s))

-- the earliest next release of task number k of a core, counted from now on, where its first release was allowed from
-- this boundary
abbrev pub first_allowed_from_now : State → ℕ → ℕ → ℕ
first_allowed_from_now core first k = max (next core k) first - ticks core.rows

-- new is old with its counts started anew: the core is opened again, under its set, rule and capacity, and each task's
-- earliest next release is kept, counted from now on
pub record IsRestarted (old new : Restarted) : Type 0 where
  pub core : new.core ≡ empty_state old.core.set old.core.rule old.core.places
  pub earliest_is : (k : ℕ) → IsIn old.core.set k → earliest new k ≡ earliest old k - ticks old.core.rows
