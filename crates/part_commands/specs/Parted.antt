-- A set on several processors: each task on the processor on which first fit puts it.
use Rattle.std.specs.Prelude.{ℕ, List, Result, Ok}
use Rattle.mc_task.specs.declared.task.Task.{Task}
use Rattle.mc_task.specs.TaskSet.{task_at, name_in}
use Rattle.part_fit.specs.Parts.{part_of}
use Rattle.part_fit.specs.FirstFit.{first_fit}
use Rattle.replies.specs.Refusal.{Refusal, NoRoom}
use Rattle.replies.specs.Reading.{◌>>=◌, refused_as}
use Rattle.command.specs.Admitted.{set_in}

-- the tasks of a set, and the processor of each task
pub record Parted : Type 0 where
  pub set : List Task
  pub of : List ℕ

-- the tasks on processor n
abbrev pub tasks_on : Parted → ℕ → List Task
tasks_on parted n = part_of parted.set parted.of n

-- the set with its tasks on these processors
abbrev pub spread : List Task → List ℕ → Parted
spread set of = record { set = set; of = of }

-- a set on processors 1 to m by first fit, or the refusal of the first task that fits on no processor
abbrev pub fitted : ℕ → List Task → Result Parted Refusal
fitted m set = do
  of ← refused_as (λ k. NoRoom (name_in (task_at set k)) m) (first_fit set m)
  Ok (spread set of)

-- the set that a task file of these bytes says, on processors 1 to m by first fit, or the refusal of the file
-- or of a task
abbrev pub parted : ℕ → List ℕ → Result Parted Refusal
parted m bytes = do
  set ← set_in bytes
  fitted m set.tasks
