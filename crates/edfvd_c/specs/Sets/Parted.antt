-- The given tasks on several processors.
use Rattle.std.specs.Prelude.{◌≡◌, ◌≤◌, ℕ, List, length, Ok, Err}
use Rattle.mc_task.specs.declared.task.Task.{Task}
use Rattle.mc_task.specs.TaskSet.{AreTasks}
use Rattle.part_fit.specs.FirstFit.{first_fit}
use Rattle.edfvd_c.specs.declared.sets.given.CTask.{CTask}
use Rattle.edfvd_c.specs.Sets.Given.{AreOf}

-- the tasks have these numbers and are a set, and first fit puts them on these of m processors, task by task
abbrev pub AreParted : List CTask → ℕ → List ℕ → Type 0
AreParted given m parts = (tasks : List Task) × AreOf given tasks × AreTasks tasks × (first_fit tasks m ≡ Ok parts)

-- the tasks have these numbers and are a set, and this is the first task that fits on none of m processors
abbrev pub FitsNowhere : List CTask → ℕ → ℕ → Type 0
FitsNowhere given m task = (tasks : List Task) × AreOf given tasks × AreTasks tasks × (first_fit tasks m ≡ Err task)

-- there are 1 to 16 processors, and the list has an element for each task
abbrev pub IsParting : List CTask → ℕ → List ℕ → Type 0
IsParting given m on = (1 ≤ m) × (m ≤ 16) × (length on ≡ length given)
