-- Runs: several ticks of one job, or several idle ticks, as one event.
use Rattle.std.specs.Prelude.{◌≡◌, ◌≢◌, ℕ, zero, suc, ◌+◌, ◌-◌, ◌<◌, Bool, false, not, ◌&&◌, List, ◌++◌, Option, None, Result, cond, nat_lt, option_map, replicate}
use Rattle.std.specs.Option.{option_or}
use Rattle.mc_task.specs.declared.task.Task.{Task}
use Rattle.mc_task.specs.declared.task.Rule.{Rule}
use Rattle.mc_task.specs.declared.task.JobId.{JobId}
use Rattle.mc_task.specs.TaskSet.{task_at}
use Rattle.mc_task.specs.Kinds.{is_virtual}
use Rattle.mc_model.specs.declared.row.How.{How}
use Rattle.mc_model.specs.declared.row.How.TheVariants.{More}
use Rattle.mc_model.specs.declared.row.Row.{Row}
use Rattle.mc_model.specs.declared.row.Row.TheVariants.{Tick}
use Rattle.mc_model.specs.TaskNumbers.{low_in, own_in, is_high_in}
use Rattle.mc_model.specs.Rows.{used, ticks}
use Rattle.mc_model.specs.Mode.{high_mode}
use Rattle.mc_model.specs.Core.{State, places_used, outcome_of}
use Rattle.mode_core.specs.declared.answers.Boundary.{Boundary}
use Rattle.mode_core.specs.declared.answers.RunFault.{RunFault}
use Rattle.mode_core.specs.declared.answers.RunFault.TheVariants as run_fault
use Rattle.mode_core.specs.declared.answers.IdleFault.{IdleFault}
use Rattle.mode_core.specs.declared.answers.IdleFault.TheVariants as idle_fault
use Rattle.mode_core.specs.Events.{refused_if, answer, unless, is_out, chosen_now, grant_refusal, idle_refusal, after_grant, after_outcome, after_idle}

-- the state after one tick of the job: a grant to its task, and then its outcome
abbrev pub after_tick : State → JobId → Bool → State
after_tick s j done = after_outcome (after_grant s j.task.0) j done

-- the state after n ticks of the job, one after another, none of which the job ends done
abbrev pub after_ticks : ℕ → State → JobId → State
after_ticks zero s j = s
after_ticks (suc n) s j = after_tick (after_ticks n s j) j false

-- the state after n idle ticks, one after another
abbrev pub after_idles : ℕ → State → State
after_idles zero s = s
after_idles (suc n) s = after_idle (after_idles n s)

-- how many ticks a job that had u ticks may have, up to the tick that is its last or an overrun: up to the low
-- budget, if the mode becomes high there, and otherwise up to its own
abbrev pub left_of : Option Task → Bool → ℕ → ℕ
left_of t may_switch u = cond (may_switch && nat_lt u (low_in t)) (low_in t - u) (own_in t - u)

-- whether a job of task k that passes its low budget makes the mode high
abbrev pub may_switch : List Task → Rule → Bool → ℕ → Bool
may_switch set rule high k = (is_high_in (task_at set k) && is_virtual rule) && not high

-- how many ticks the job may have after these rows, up to the tick that is its last or an overrun
abbrev pub ticks_left : List Task → Rule → List Row → JobId → ℕ
ticks_left set rule g j = left_of (task_at set j.task.0) (may_switch set rule (high_mode rule g) j.task.0) (used g j)

-- the chosen job's boundary, if a job is chosen
abbrev pub boundary_of : State → Option Boundary
boundary_of s = option_map (λ j. record { job = j; ticks = ticks_left s.set s.rule s.rows j }) (chosen_now s)

-- no capacity is left for n more rows
abbrev pub is_too_full : State → ℕ → Bool
is_too_full s n = nat_lt s.places (places_used s + n)

-- why a run of n ticks of the job is refused: a tick is granted, the job is not the chosen one, the run passes the
-- job's boundary, or no capacity is left for the run
abbrev pub run_refusal : State → JobId → ℕ → Option RunFault
run_refusal s j n =
    option_or (option_map run_fault.TickOut s.out)
    (option_or (refused_if (not (is_out (chosen_now s) j)) (run_fault.NotChosen (chosen_now s)))
    (option_or (refused_if (nat_lt (ticks_left s.set s.rule s.rows j) n) (run_fault.Past (ticks_left s.set s.rule s.rows j)))
    (refused_if (is_too_full s n) run_fault.Full)))

-- the state before the last of n ticks of the job
abbrev pub before_last : State → JobId → ℕ → State
before_last s j n = after_ticks (n - 1) s j

-- what a run of n ticks of the job returns: how the last tick ends
abbrev pub run_answer : State → JobId → ℕ → Bool → Result How RunFault
run_answer s j n done = answer (run_refusal s j n) (outcome_of s.set s.rule (before_last s j n).rows j done)

-- the state after a run of n ticks of the job: n - 1 ticks that do not end it done, and then the last
abbrev pub after_run : State → JobId → ℕ → Bool → State
after_run s j n done = unless (run_refusal s j n) (after_tick (before_last s j n) j done) s

-- what the single ticks of a run are: each is granted, and the job goes on after each but the last
pub record AreRunTicks (s : State) (j : JobId) (n : ℕ) : Type 0 where
  pub granted : (i : ℕ) → i < n → grant_refusal (after_ticks i s j) j.task.0 ≡ None
  pub more : (i : ℕ) → i + 1 < n → outcome_of s.set s.rule (after_ticks i s j).rows j false ≡ More

-- a run up to the boundary, if it is not refused, ends with a tick after which the job does not go on, whether it is
-- done or not
abbrev pub IsLastTick : State → Boundary → Type 0
IsLastTick s b = run_refusal s b.job b.ticks ≡ None
    → outcome_of s.set s.rule (before_last s b.job b.ticks).rows b.job false ≢ More

-- the state with n more ticks of the job in its rows, after each of which the job goes on
abbrev pub going : State → JobId → ℕ → State
going s j n = record s { rows = replicate n (Tick j More) ++ s.rows }

-- why n idle ticks are refused: a tick is granted, a job is pending, or no capacity is left for them
abbrev pub idles_refusal : State → ℕ → Option IdleFault
idles_refusal s n =
    option_or (option_map idle_fault.TickOut s.out)
    (option_or (option_map idle_fault.Pending (chosen_now s))
    (refused_if (is_too_full s n) idle_fault.Full))

-- what n idle ticks return: the number of the first
abbrev pub idles_answer : State → ℕ → Result ℕ IdleFault
idles_answer s n = answer (idles_refusal s n) (ticks s.rows)

-- the state after n idle ticks
abbrev pub after_idle_for : State → ℕ → State
after_idle_for s n = unless (idles_refusal s n) (after_idles n s) s

-- what idle ticks of one call are: none of them is refused as a single tick
abbrev pub AreIdleTicks : State → ℕ → Type 0
AreIdleTicks s n = (i : ℕ) → i < n → idle_refusal (after_idles i s) ≡ None
