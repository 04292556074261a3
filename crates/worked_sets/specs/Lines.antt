-- The tasks and jobs that lines of the worked examples say.
use Rattle.std.specs.Prelude.{ℕ, List}
use Rattle.std.specs.Borrow.{Bor}
use Rattle.mc_task.specs.declared.task.Task.{Task}
use Rattle.mc_task.specs.declared.task.Level.{Level}
use Rattle.mc_model.specs.declared.work.WorkRow.{WorkRow}

-- the task with this name, level, period, low budget and high budget
abbrev pub task_of : Bor (List ℕ) × Level × ℕ × ℕ × ℕ → Task
task_of l = record { name = l.0.now; level = l.1; period = l.2; low = l.3; high = l.4 }

-- the job of this task, with this release and need
abbrev pub work_of : ℕ × ℕ × ℕ → WorkRow
work_of j = record { task = record { 0 = j.0 }; release = j.1; need = j.2 }
