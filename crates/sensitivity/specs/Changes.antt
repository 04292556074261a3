-- The loads of a set in which one task has another budget.
use Rattle.std.specs.Prelude.{◌≡◌, ◌+◌, ◌*◌, ◌/◌, ◌^◌, ◌<◌, ◌≤◌}
use Rattle.mc_task.specs.declared.task.Task.{Task}
use Rattle.mc_model.specs.Loads.{low_low, high_low, high_high}
use Rattle.load_sum.specs.declared.loads.Loads.{Loads}

-- each utilisation is at most 2^39, as it is with 128 budgets below 2^32
pub record AreSmall (loads : Loads) : Type 0 where
  pub above : 0 < loads.lcm
  pub within : loads.lcm ≤ 2 ^ 60
  pub low_low : loads.low_low ≤ 2 ^ 39 * loads.lcm
  pub high_low : loads.high_low ≤ 2 ^ 39 * loads.lcm
  pub high_high : loads.high_high ≤ 2 ^ 39 * loads.lcm

-- what the task asks for is a part of the loads
pub record IsPart (t : Task) (loads : Loads) : Type 0 where
  pub period : 0 < t.period
  pub low_low : low_low t * (loads.lcm / t.period) ≤ loads.low_low
  pub high_low : high_low t * (loads.lcm / t.period) ≤ loads.high_low
  pub high_high : high_high t * (loads.lcm / t.period) ≤ loads.high_high

-- the loads after differ from those before in that the new task stands in the place of the old one
pub record DifferBy (old new : Task) (before after : Loads) : Type 0 where
  pub lcm : after.lcm ≡ before.lcm
  pub low_low : after.low_low + low_low old * (before.lcm / old.period) ≡ before.low_low + low_low new * (before.lcm / old.period)
  pub high_low : after.high_low + high_low old * (before.lcm / old.period) ≡ before.high_low + high_low new * (before.lcm / old.period)
  pub high_high : after.high_high + high_high old * (before.lcm / old.period) ≡ before.high_high + high_high new * (before.lcm / old.period)
