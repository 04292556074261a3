-- The numbers of one generated task: all of it except its name.
use Rattle.std.specs.Prelude.{◌≡◌, ◌≤◌}
use Rattle.mc_task.specs.declared.task.Task.{Task}
use Rattle.set_gen.specs.declared.tasks.Numbers.{Numbers}

-- the numbers are the task's level, period and budgets
pub record AreOf (task : Task) (numbers : Numbers) : Type 0 where
  pub level : numbers.level ≡ task.level
  pub period : numbers.period ≡ task.period
  pub low : numbers.low ≡ task.low
  pub high : numbers.high ≡ task.high

-- the period is 200 to 10,000 ticks, and no budget is longer than three of the longest periods
pub record AreSmall (numbers : Numbers) : Type 0 where
  pub least : 200 ≤ numbers.period
  pub most : numbers.period ≤ 10000
  pub low : numbers.low ≤ 10000
  pub high : numbers.high ≤ 30000
