-- The four events: when each is refused, what it returns, and the state after it.
use Rattle.std.specs.Prelude.{ℕ, ◌-◌, ◌^◌, Bool, false, not, ◌||◌, List, [], ◌∷◌, Option, Some, None, Result, Ok, Err, cond, nat_lt, nat_le, ◌==◌, option_map}
use Rattle.std.specs.Option.{option_or}
use Rattle.mc_task.specs.declared.task.Task.{Task}
use Rattle.mc_task.specs.declared.task.Rule.{Rule}
use Rattle.mc_task.specs.declared.task.JobId.{JobId}
use Rattle.mc_model.specs.declared.row.How.{How}
use Rattle.mc_model.specs.declared.row.Row.TheVariants.{Idle}
use Rattle.mode_core.specs.declared.answers.Released.{Released}
use Rattle.mode_core.specs.declared.answers.Released.TheVariants.{Kept, Dropped, Held}
use Rattle.mode_core.specs.declared.answers.Granted.{Granted}
use Rattle.mode_core.specs.declared.answers.NotOut.{NotOut}
use Rattle.mode_core.specs.declared.answers.ReleaseFault.{ReleaseFault}
use Rattle.mode_core.specs.declared.answers.ReleaseFault.TheVariants as release_fault
use Rattle.mode_core.specs.declared.answers.GrantFault.{GrantFault}
use Rattle.mode_core.specs.declared.answers.GrantFault.TheVariants as grant_fault
use Rattle.mode_core.specs.declared.answers.IdleFault.{IdleFault}
use Rattle.mode_core.specs.declared.answers.IdleFault.TheVariants as idle_fault
use Rattle.mc_model.specs.Rows.{same_job, ticks, used}
use Rattle.mc_model.specs.Core.{State, chosen, begun, places_used, next, next_job, keeps, release_row, outcome_of, settle, released_so_far}

-- a state with no rows, no granted tick and no held release
abbrev pub empty_state : List Task → Rule → ℕ → State
empty_state set rule places =
    record { set = set; rule = rule; places = places; rows = []; out = None; held = [] }

-- the refusal, if the test holds
abbrev pub refused_if : {E : Type 0} → Bool → E → Option E
refused_if b e = cond b (Some e) None

-- the refusal, or else the return value
abbrev pub answer : {T E : Type 0} → Option E → T → Result T E
answer None ok = Ok ok
answer (Some e) ok = Err e

-- the state after an event, or the state before it if the event is refused
abbrev pub unless : {E : Type 0} → Option E → State → State → State
unless None after before = after
unless (Some e) after before = before

-- the job of the granted tick, if it is of task number k
abbrev pub running : Option JobId → ℕ → Option JobId
running None k = None
running (Some j) k = refused_if (j.task.0 == k) j

-- the whole capacity is used
abbrev pub is_full : State → Bool
is_full s = places_used s == s.places

-- no capacity is left for a release of task k, or no number for its job
abbrev pub is_spent : State → ℕ → Bool
is_spent s k = is_full s || nat_le (2 ^ 32 - 1) (released_so_far s k)

-- why a release of task k is refused: the task has a granted tick, the release is too soon, or no capacity or
-- number is left
abbrev pub release_refusal : State → ℕ → Option ReleaseFault
release_refusal s k =
    option_or (option_map release_fault.Running (running s.out k))
    (option_or (refused_if (nat_lt (begun s) (next s k)) (release_fault.TooSoon (next s k)))
    (refused_if (is_spent s k) release_fault.Full))

-- what a release that is taken returns: held if a tick is granted, otherwise kept or dropped
abbrev pub taken : State → Option JobId → ℕ → Released
taken s (Some j) k = Held (next_job s k) (begun s)
taken s None k =
    cond (keeps s.set s.rule s.rows k) (Kept (next_job s k) (begun s)) (Dropped (next_job s k) (begun s))

-- the state with this release: held if a tick is granted, otherwise in the rows
abbrev pub with_release : State → Option JobId → JobId → State
with_release s (Some j) i = record s { held = i ∷ s.held }
with_release s None i = record s { rows = release_row s.set s.rule i s.rows ∷ s.rows }

-- what a release of task k returns
abbrev pub release_answer : State → ℕ → Result Released ReleaseFault
release_answer s k = answer (release_refusal s k) (taken s s.out k)

-- the state after a release of task k
abbrev pub after_release : State → ℕ → State
after_release s k = unless (release_refusal s k) (with_release s s.out (next_job s k)) s

-- there is a job, and it is of task k
abbrev pub is_of_task : Option JobId → ℕ → Bool
is_of_task None k = false
is_of_task (Some j) k = j.task.0 == k

-- the chosen job
abbrev pub chosen_now : State → Option JobId
chosen_now s = chosen s.set s.rule s.rows

-- why task k gets no tick: a tick is granted already, the chosen job is not of task k, or the whole capacity
-- is used
abbrev pub grant_refusal : State → ℕ → Option GrantFault
grant_refusal s k =
    option_or (option_map grant_fault.TickOut s.out)
    (option_or (refused_if (not (is_of_task (chosen_now s) k)) (grant_fault.NotChosen (chosen_now s)))
    (refused_if (is_full s) grant_fault.Full))

-- a job of no task
abbrev pub no_job : JobId
no_job = record { task = record { 0 = 0 }; count = 0 }

-- the job, if there is one
abbrev pub job_in : Option JobId → JobId
job_in None = no_job
job_in (Some j) = j

-- the tick that is granted to the job
abbrev pub granted : State → JobId → Granted
granted s j = record { job = j; at = ticks s.rows; before = used s.rows j }

-- what a grant to task k returns
abbrev pub grant_answer : State → ℕ → Result Granted GrantFault
grant_answer s k = answer (grant_refusal s k) (granted s (job_in (chosen_now s)))

-- the state after a grant to task k, with a granted tick of the chosen job
abbrev pub after_grant : State → ℕ → State
after_grant s k = unless (grant_refusal s k) (record s { out = chosen_now s }) s

-- the granted tick is the job's
abbrev pub is_out : Option JobId → JobId → Bool
is_out None j = false
is_out (Some i) j = same_job i j

-- why an outcome of the job is refused: the granted tick, if any, is not the job's
abbrev pub outcome_refusal : State → JobId → Option NotOut
outcome_refusal s j = refused_if (not (is_out s.out j)) (record { given = j; out = s.out })

-- what an outcome of the job returns
abbrev pub outcome_answer : State → JobId → Bool → Result How NotOut
outcome_answer s j done = answer (outcome_refusal s j) (outcome_of s.set s.rule s.rows j done)

-- the state after an outcome of the job: the row of the tick is added, and then the rows of the held releases
abbrev pub after_outcome : State → JobId → Bool → State
after_outcome s j done =
    unless (outcome_refusal s j) (record s { rows = settle s done; out = None; held = [] }) s

-- why no idle tick is made: a tick is granted, a job is pending, or the whole capacity is used
abbrev pub idle_refusal : State → Option IdleFault
idle_refusal s =
    option_or (option_map idle_fault.TickOut s.out)
    (option_or (option_map idle_fault.Pending (chosen_now s))
    (refused_if (is_full s) idle_fault.Full))

-- what an idle tick returns: its number
abbrev pub idle_answer : State → Result ℕ IdleFault
idle_answer s = answer (idle_refusal s) (ticks s.rows)

-- the state after an idle tick
abbrev pub after_idle : State → State
after_idle s = unless (idle_refusal s) (record s { rows = Idle ∷ s.rows }) s
