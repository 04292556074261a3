-- The pending jobs and the late ones with their row numbers in the trace. The newest row stands first.
use Rattle.std.specs.Prelude.{ℕ, Bool, not, ◌&&◌, ◌||◌, List, [], ◌∷◌, ◌++◌, length, cond, nat_le, filter}
use Rattle.mc_task.specs.declared.task.Task.{Task}
use Rattle.mc_task.specs.declared.task.JobId.{JobId}
use Rattle.mc_task.specs.TaskSet.{task_at}
use Rattle.mc_model.specs.declared.row.How.{How}
use Rattle.mc_model.specs.declared.row.Row.{Row}
use Rattle.mc_model.specs.declared.row.Row.TheVariants.{Release, Tick, Idle}
use Rattle.mc_model.specs.TaskNumbers.{is_high_in}
use Rattle.mc_model.specs.Rows.{same_job, ticks}
use Rattle.mc_model.specs.Mode.{is_over}
use Rattle.mc_model.specs.Pending.{KeptRelease, is_end}
use Rattle.mc_model.specs.Late.{deadline}

-- a kept release, and the number of rows before it
pub record Placed : Type 0 where
  pub kept : KeptRelease
  pub rows_before : ℕ

-- a release of the job after these rows
abbrev pub new_one : JobId → List Row → Placed
new_one j g = record { kept = record { job = j; release = ticks g }; rows_before = length g }

-- the kept releases, the newest first
abbrev pub placed : List Row → List Placed
placed [] = []
placed (Release j kept ∷ g) = cond kept (new_one j g ∷ placed g) (placed g)
placed (row ∷ g) = placed g

-- what a tick with this outcome leaves pending: an end takes its job out, an overrun the low jobs
abbrev pub stays : List Task → JobId → How → Placed → Bool
stays set j how x = not (is_end how && same_job j x.kept.job)
    && (not (is_over how) || is_high_in (task_at set x.kept.job.task.0))

-- the pending jobs, the newest release first
abbrev pub waiting : List Task → List Row → List Placed
waiting set [] = []
waiting set (Release j kept ∷ g) = cond kept (new_one j g ∷ waiting set g) (waiting set g)
waiting set (Tick j how ∷ g) = filter (stays set j how) (waiting set g)
waiting set (Idle ∷ g) = waiting set g

-- the deadline of the kept release has come at boundary now
abbrev pub is_due : List Task → ℕ → Placed → Bool
is_due set now x = nat_le (deadline set x.kept) now

-- the jobs that ended or were discarded at a tick after their deadlines
abbrev pub gone_late : List Task → List Row → List Placed
gone_late set [] = []
gone_late set (Tick j how ∷ g) =
    filter (λ x. not (stays set j how x) && is_due set (ticks g) x) (waiting set g) ++ gone_late set g
gone_late set (row ∷ g) = gone_late set g
