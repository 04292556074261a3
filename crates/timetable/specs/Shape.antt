-- How a floor is stored.
use Rattle.std.specs.Prelude.{◌≡◌, ℕ, ◌+◌, ◌<◌, Bool, List, [], ◌∷◌, Option, Some, None, length, cond, slice_get, nat_le, ◌==◌}
use Rattle.mc_task.specs.declared.task.Rule.{Rule}
use Rattle.mc_task.specs.declared.task.Task.{Task}
use Rattle.mc_task.specs.declared.task.JobId.{JobId}
use Rattle.mc_model.specs.declared.row.Row.{Row}
use Rattle.mc_model.specs.declared.work.WorkRow.{WorkRow}
use Rattle.mc_model.specs.Rows.{ticks, releases}
use Rattle.mc_model.specs.Core.{State, chosen, release_row}
use Rattle.mc_model.specs.Follows.{Arrival, arrivals, planned}
use Rattle.timetable.specs.declared.plan.Plan.{Plan}
use Rattle.timetable.specs.declared.plan.Plan.TheVariants.{Free, Rows}
use Rattle.timetable.specs.declared.needs.Needs.{Needs}
use Rattle.timetable.specs.declared.floor.Floor.TheInside.{Inside}
use Rattle.timetable.specs.Ticks.{is_last, tick_row}
use Rattle.timetable.specs.Floor.{FloorState}
use Rattle.timetable.specs.Needs.{Tracks}
use Rattle.timetable.specs.Plans.{IsSchedule, settled_by}

-- the job that a release of task number k makes if no release is held
abbrev pub first_job : List Row → ℕ → JobId
first_job g k = record { task = record { 0 = k }; count = releases g k + 1 }

-- the row of the given release, if there is one and it is due; otherwise of a tick of the chosen job, or of
-- an idle tick
abbrev pub row_now : List Task → Rule → List WorkRow → List Row → Option Arrival → Row
row_now set rule work g None = tick_row set rule work g (chosen set rule g)
row_now set rule work g (Some a) =
    cond (a.at == ticks g) (release_row set rule (first_job g a.task) g)
    (tick_row set rule work g (chosen set rule g))

-- the next row: the first release that was not taken, if it is due, otherwise a tick; none after n ticks
abbrev pub next_row : List Task → Rule → List WorkRow → ℕ → List Row → Option Row
next_row set rule work n g =
    cond (nat_le n (ticks g)) None
    (Some (row_now set rule work g (slice_get (planned work n) (length (arrivals g)))))

-- each row is the one that the plan adds
abbrev pub Runs : List Task → Rule → List WorkRow → ℕ → List Row → Type 0
Runs set rule work n [] = Unit {0}
Runs set rule work n (row ∷ g) = (next_row set rule work n g ≡ Some row) × Runs set rule work n g

-- a core keeps to its work: each row is the one that the plan adds, including those of the granted tick and
-- of the held releases
pub record KeepsToWork (s : State) (work : List WorkRow) (n taken : ℕ) : Type 0 where
  pub schedule : IsSchedule s work n
  pub runs : Runs s.set s.rule work n (settled_by work s)
  pub taken_are : taken ≡ length (arrivals (settled_by work s))

-- the rows of a core are those that its plan adds; a free plan asks for nothing
abbrev pub KeepsToPlan : Plan → State → ℕ → Type 0
KeepsToPlan Free s taken = Unit {0}
KeepsToPlan (Rows work n) s taken = KeepsToWork s work n taken

-- if a tick is granted, the flag says whether it is the last that its job needs
abbrev pub FlagsLast : List WorkRow → List Row → Option JobId → Bool → Type 0
FlagsLast work g None last = Unit {0}
FlagsLast work g (Some j) last = last ≡ is_last work g j

-- the floor's state, by its fields
abbrev pub floor_of : Inside → FloorState
floor_of a = record { core = a.core; plan = a.plan; taken = a.taken }

-- what a floor stores of a plan
pub record IsStoredPlan (s : State) (work : List WorkRow) (n taken : ℕ) (needs : Needs)
    (last : Bool) : Type 0 where
  pub run : KeepsToWork s work n taken
  pub tracks : Tracks work taken needs
  pub flag : FlagsLast work s.rows s.out last

-- what a floor stores of its plan; nothing of a free one
abbrev pub IsStoredBy : Plan → State → ℕ → Needs → Bool → Type 0
IsStoredBy Free s taken needs last = taken ≡ 0
IsStoredBy (Rows work n) s taken needs last = IsStoredPlan s work n taken needs last

-- the invariant of a floor: the core, its plan, and what is stored of it
abbrev pub IsFloor : Inside → Type 0
IsFloor a = IsStoredBy a.plan a.core a.taken a.needs a.last

-- there was capacity for one more row, the floor has it, and nothing else changed except the number of
-- releases taken
pub record AddsRow (old new : FloorState) : Type 0 where
  pub room : length old.core.rows < old.core.places
  pub row : Row
  pub after : new ≡ record old { core = record old.core { rows = row ∷ old.core.rows }; taken = new.taken }
