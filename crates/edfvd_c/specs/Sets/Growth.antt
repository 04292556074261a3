-- By how much the high budgets of given tasks could grow.
use Rattle.std.specs.Prelude.{◌≡◌, ◌+◌, ◌<◌, ◌≤◌, ◌^◌, ℕ, List, Option}
use Rattle.mc_task.specs.declared.task.Task.{Task}
use Rattle.study.specs.Stretch.{stretch}
use Rattle.edfvd_c.specs.declared.sets.given.CTask.{CTask}
use Rattle.edfvd_c.specs.Sets.Refused.{AreInRange}

-- the tasks have these numbers and are a set within range, and this is their stretch
abbrev pub IsStretched : List CTask → Option ℕ → Type 0
IsStretched given percent = (tasks : List Task) × AreInRange given tasks × (percent ≡ stretch tasks)

-- numbers of which `edfvd_accept` takes: up to 10,000 sets, 2 to 32 tasks, and the last set has a number of 64 bits
pub record AreAccepted (number sets tasks : ℕ) : Type 0 where
  pub some : (1 ≤ sets) × (sets ≤ 10000)
  pub tasks_each : (2 ≤ tasks) × (tasks ≤ 32)
  pub numbers : number + sets < 2 ^ 64
