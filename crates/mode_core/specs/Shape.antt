-- How a core is represented.
use Rattle.std.specs.Prelude.{◌≡◌, ℕ, ◌-◌, ◌≤◌, ◌^◌, length, reverse, vec_capacity}
use Rattle.mode_core.specs.declared.scheduler.Core.TheInside.{Inside}
use Rattle.mc_task.specs.TaskSet.{AreTasks}
use Rattle.mc_model.specs.Holds.{Fits, Holds}
use Rattle.mc_model.specs.Core.{State, Good, places_used}
use Rattle.arrivals.specs.Arrived.{arrived}
use Rattle.mode_core.specs.Noted.{notes_of}

-- the state, by the fields
abbrev pub state_of : {K : Type 0} → Inside K → State
state_of a = record {
  set = a.log.set;
  rule = a.log.rule;
  places = a.log.places;
  rows = a.log.rows;
  out = a.out;
  held = reverse a.held.items;
}

-- what is true of the state of every core of at most this capacity
pub record IsSoundUpTo (most : ℕ) (s : State) : Type 0 where
  pub tasks : AreTasks s.set
  pub fits : Fits s.rule
  pub holds : Holds s.set s.rule
  pub good : Good s
  pub range : s.places ≤ most
  pub small : s.places ≤ 2 ^ 62
  pub room : places_used s ≤ s.places

-- what is true of the state of every core that stores its rows in a list
abbrev pub IsSound : State → Type 0
IsSound = IsSoundUpTo (2 ^ 32 - 1)

-- the state is sound, its releases are noted, and the list of held releases has capacity for one of each task
pub record IsCore {K : Type 0} (most : ℕ) (a : Inside K) : Type 0 where
  pub sound : IsSoundUpTo most (state_of a)
  pub notes_are : a.arrivals ≡ arrived a.log.set (notes_of (state_of a))
  pub held_room : length a.log.set ≤ vec_capacity a.held
