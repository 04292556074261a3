-- Loads that belong to a set: its utilisations over the hyperperiod.
use Rattle.std.specs.Prelude.{◌≡◌, ℕ, ◌*◌, ◌<◌, ◌≤◌, List}
use Rattle.mc_task.specs.declared.task.Task.{Task}
use Rattle.mc_task.specs.TaskSet.{AreTasks}
use Rattle.mc_model.specs.Loads.{product, load_ll, load_hl, load_hh, hyperperiod, most_lcm}
use Rattle.load_sum.specs.declared.loads.Loads.{Loads}
use Rattle.load_sum.specs.declared.loads.LoadFault.{LoadFault}
use Rattle.load_sum.specs.declared.loads.LoadFault.TheVariants.{Range}

-- each numerator over lcm, the hyperperiod, is the set's load over the product of the periods
pub record BelongTo (tasks : List Task) (loads : Loads) : Type 0 where
  pub set : AreTasks tasks
  pub lcm : loads.lcm ≡ hyperperiod tasks
  pub above : 0 < loads.lcm
  pub within : loads.lcm ≤ most_lcm
  pub low_low : loads.low_low * product tasks ≡ load_ll tasks * loads.lcm
  pub high_low : loads.high_low * product tasks ≡ load_hl tasks * loads.lcm
  pub high_high : loads.high_high * product tasks ≡ load_hh tasks * loads.lcm

-- the loads belong to some set
pub record AreOfSomeSet (loads : Loads) : Type 0 where
  pub tasks : List Task
  pub belong : BelongTo tasks loads

-- the number of the task whose period takes the hyperperiod out of range
abbrev pub fault_task : LoadFault → ℕ
fault_task (Range task) = task.0
