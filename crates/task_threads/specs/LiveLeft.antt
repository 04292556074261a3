-- A live run after its threads have ended.
use Rattle.std.specs.Prelude.{◌≡◌, ℕ, ◌+◌, List, [], ◌++◌, None}
use Rattle.mc_model.specs.declared.row.Row.{Row}
use Rattle.mc_model.specs.Rows.{ticks}
use Rattle.mc_model.specs.Late.{late}
use Rattle.mc_model.specs.Core.{State}
use Rattle.timetable.specs.declared.plan.Plan.TheVariants.{Free}
use Rattle.timetable.specs.Floor.{FloorState}
use Rattle.executive.specs.Stands.{opening_of}
use Rattle.mc_model.specs.LiveTrace.{EndByNeed, LiveTrace}

-- a floor without a plan and without a granted tick, whose rows end jobs by their needs
pub record IsLiveFloor (f : FloorState) : Type 0 where
  pub free : f.plan ≡ Free
  pub out : f.core.out ≡ None
  pub ends : EndByNeed f.core.set f.core.rows

-- the floor of a live run after n more ticks
pub record Moves (old new : FloorState) (n : ℕ) : Type 0 where
  pub live : IsLiveFloor new
  pub same : opening_of new ≡ opening_of old
  pub ticks : ticks new.core.rows ≡ ticks old.core.rows + n

-- the rows up to that of the n-th tick are a live trace, and no job is late in it
pub record HasLiveTrace (s : State) (n : ℕ) : Type 0 where
  pub later : List Row
  pub h : List Row
  pub rows : s.rows ≡ later ++ h
  pub live : LiveTrace s.set s.rule n h
  pub timely : late s.set h ≡ []
