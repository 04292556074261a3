-- The numbers of a set's tasks, as a caller in C gives them.
use Rattle.std.specs.Prelude.{◌≡◌, ℕ, List, map}
use Rattle.mc_task.specs.declared.task.Task.{Task}
use Rattle.mc_task.specs.declared.task.Level.{Level}
use Rattle.mc_task.specs.declared.task.Level.TheVariants.{Low, High}
use Rattle.edfvd_c.specs.declared.sets.given.CTask.{CTask}

-- 0 for low and 1 for high
abbrev pub level_number : Level → ℕ
level_number Low = 0
level_number High = 1

-- a task's numbers
abbrev pub numbers_of : Task → CTask
numbers_of t = record { level = level_number t.level; period = t.period; low = t.low; high = t.high }

-- the tasks have these numbers, in order
abbrev pub AreOf : List CTask → List Task → Type 0
AreOf given tasks = map numbers_of tasks ≡ given
