-- The releases of a state, as they are noted.
use Rattle.std.specs.Prelude.{ℕ, ◌+◌, ◌-◌, ◌<◌, ◌≤◌, ◌^◌, List, [], ◌∷◌, ◌++◌, map}
use Rattle.mc_task.specs.declared.task.JobId.{JobId}
use Rattle.mc_model.specs.declared.row.Row.{Row}
use Rattle.mc_model.specs.declared.row.Row.TheVariants.{Release, Tick, Idle}
use Rattle.mc_model.specs.Rows.{ticks}
use Rattle.mc_model.specs.Core.{State}
use Rattle.arrivals.specs.declared.arrivals.Slot.{Slot}
use Rattle.arrivals.specs.Notes.{Note}
use Rattle.arrivals.specs.Arrived.{HasTask, count_of, next_of}

-- a release of the job at this boundary
abbrev pub note_at : ℕ → JobId → Note
note_at at j = record { task = j.task.0; at = at }

-- the releases of these rows
abbrev pub notes_of_rows : List Row → List Note
notes_of_rows [] = []
notes_of_rows (Release j kept ∷ g) = note_at (ticks g) j ∷ notes_of_rows g
notes_of_rows (Tick j how ∷ g) = notes_of_rows g
notes_of_rows (Idle ∷ g) = notes_of_rows g

-- the releases of a state: those of its rows, and the held ones, at the boundary after the granted tick
abbrev pub notes_of : State → List Note
notes_of s = map (note_at (ticks s.rows + 1)) s.held ++ notes_of_rows s.rows

-- a release of task number k is allowed at this boundary, and its number is in range
pub record MayNote (slots : List Slot) (k at : ℕ) : Type 0 where
  pub task : HasTask slots k
  pub few : count_of slots k < 2 ^ 32 - 1
  pub time : at ≤ 2 ^ 62
  pub allowed : next_of slots k ≤ at
