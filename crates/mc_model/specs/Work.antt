-- Lists of work: jobs by their releases, each task's releases at least its period apart.
use Rattle.std.specs.Prelude.{◌≡◌, ◌+◌, ◌≤◌, List, [], ◌∷◌}
use Rattle.mc_task.specs.declared.task.Task.{Task}
use Rattle.mc_task.specs.TaskSet.{task_at, IsIn}
use Rattle.mc_model.specs.TaskNumbers.{period_in}
use Rattle.mc_model.specs.declared.work.WorkRow.{WorkRow}

-- v may come after w in a list of work: it is not released earlier, and if both are of one task, at least a
-- period later
pub record MayFollow (set : List Task) (w v : WorkRow) : Type 0 where
  pub order : w.release ≤ v.release
  pub apart : w.task.0 ≡ v.task.0 → w.release + period_in (task_at set w.task.0) ≤ v.release

-- each row of the list may come after w
abbrev pub AllFollow : List Task → WorkRow → List WorkRow → Type 0
AllFollow set w [] = Unit {0}
AllFollow set w (v ∷ vs) = MayFollow set w v × AllFollow set w vs

-- the task is in the set, and its job needs at least one tick
pub record IsNeed (set : List Task) (w : WorkRow) : Type 0 where
  pub task : IsIn set w.task.0
  pub need : 1 ≤ w.need

-- a list of work: each row may come after those before it, is of a task of the set, and needs at least one
-- tick
abbrev pub IsWork : List Task → List WorkRow → Type 0
IsWork set [] = Unit {0}
IsWork set (w ∷ ws) = IsNeed set w × AllFollow set w ws × IsWork set ws
