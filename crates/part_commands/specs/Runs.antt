-- Floors whose plans are run side by side: before the runs, and at their end.
use Rattle.std.specs.Prelude.{◌≡◌, ℕ, ◌<◌, length, slice_index_or, true, List, [], map, None, Result, Ok, IfOk}
use Rattle.mc_model.specs.Late.{late}
use Rattle.timetable.specs.declared.acts.Act.TheVariants as act
use Rattle.timetable.specs.Floor.{FloorState, is_planned, next_act}
use Rattle.timetable.specs.Plans.{IsTraceOfPlan}
use Rattle.executive.specs.Stands.{opening_of}
use Rattle.mc_task.specs.declared.set.Memory.{Memory}
use Rattle.part_commands.specs.declared.side_by_side.Side.{Side}

-- the side's floor has a plan, no rows and no tick in progress
pub record IsFresh (side : Side) : Type 0 where
  pub planned : is_planned side.floor.plan ≡ true
  pub rows : side.floor.core.rows ≡ []
  pub out : side.floor.core.out ≡ None

-- the floor is the side's at the end of its plan: its rows are the one trace that follows, in which no job is
-- late
pub record IsRunOf (side : Side) (done : FloorState) : Type 0 where
  pub same : opening_of done ≡ side.floor
  pub trace : IsTraceOfPlan done.plan done.core
  pub timely : late done.core.set done.core.rows ≡ []
  pub finished : next_act done ≡ act.Finished
  pub none_out : done.core.out ≡ None

-- the results of runs that all gave a floor
abbrev pub results_of : List FloorState → List (Result FloorState Memory)
results_of floors = map (λ f. Ok f) floors

-- the i-th result is the floor of the i-th side at the end of its plan, or out of memory
abbrev pub RunsEach : List Side → List (Result FloorState Memory) → Type 0
RunsEach sides results = (i : ℕ) (side : Side) (r : Result FloorState Memory) → i < length sides
    → IfOk (slice_index_or results i r) (IsRunOf (slice_index_or sides i side))
