-- What a seat of the executive's turnstile knows of the history.
use Rattle.std.specs.Prelude.{ℕ, List, [], ◌∷◌, ◌++◌, Option, Some, None}
use Rattle.mc_task.specs.declared.task.Rule.TheVariants.{Plain}
use Rattle.mc_task.specs.declared.task.JobId.{JobId}
use Rattle.mode_core.specs.Events.{empty_state, running}
use Rattle.timetable.specs.declared.plan.Plan.TheVariants.{Free}
use Rattle.timetable.specs.Floor.{FloorState, opening}
use Rattle.turnstile.specs.declared.tokens.Seat.{Seat}
use Rattle.turnstile.specs.declared.kept.Kept.{Ghosts}
use Rattle.turnstile.specs.declared.tokens.Turn.{Turn}
use Rattle.turnstile.specs.Seats.{seen, mine, history, turn_mine, state_of}
use Rattle.executive.specs.declared.state.State.{State}
use Rattle.executive.specs.declared.state.Opened.{Opened}
use Rattle.executive.specs.declared.entry.Entry.{Entry}
use Rattle.executive.specs.Histories.{after}

-- what a seat knows: the floor that the executive was made with, a beginning of the history, and the calls of
-- its own task there
pub record Lists : Type 0 where
  pub opening : FloorState
  pub seen : List Entry
  pub mine : List Entry

-- a floor of no tasks, used if no floor is given
abbrev pub no_floor : FloorState
no_floor = opening (empty_state [] Plain 0) Free

-- the floor that is given, or else the floor of no tasks
abbrev pub floor_or_none : Option Opened → FloorState
floor_or_none (Some o) = o.floor
floor_or_none None = no_floor

-- what a seat knows
abbrev pub lists : {g : Ghosts State Entry Opened} → Seat State Entry Opened g → Lists
lists s = record { opening = floor_or_none s.table_seat.me.0.fixed; seen = seen s; mine = mine s }

-- what the seat of a turn knows once the turn has ended
abbrev pub lists_left : {g : Ghosts State Entry Opened} → Turn State Entry Opened g → Lists
lists_left t = record {
  opening = floor_or_none t.claim.table_seat.me.0.fixed;
  seen = history t ++ (state_of t).called.last ∷ [];
  mine = turn_mine t ++ (state_of t).called.last ∷ [];
}

-- the floor after all that was seen
abbrev pub floor_seen : Lists → FloorState
floor_seen l = after l.opening l.seen

-- the job of the granted tick of task number k, after all that was seen
abbrev pub job_out : ℕ → Lists → Option JobId
job_out k l = running (floor_seen l).core.out k
