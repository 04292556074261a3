-- What holds of the tasks of a demand file that are read so far.
use Rattle.std.specs.Prelude.{◌≡◌, ◌≤◌, ℕ, List, length}
use Rattle.std.specs.List.{AllByRecursion}
use Rattle.mc_task.specs.TaskSet.{Distinct}
use Rattle.demand_test.specs.declared.demand.Demand.{Demand}
use Rattle.demand_test.specs.DemandSet.{IsDemand, names_of, hyperperiod, most_lcm}

-- the tasks are a set, or there are none, and this is their hyperperiod
pub record IsSoFar (tasks : List Demand) (multiple : ℕ) : Type 0 where
  pub few : length tasks ≤ 128
  pub each : AllByRecursion IsDemand tasks
  pub names : Distinct (names_of tasks)
  pub value : multiple ≡ hyperperiod tasks
  pub range : hyperperiod tasks ≤ most_lcm
