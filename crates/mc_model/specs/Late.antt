-- The late jobs: those that were still pending at their deadline. The newest row stands first.
use Rattle.std.specs.Prelude.{ℕ, ◌+◌, Bool, ◌&&◌, List, [], ◌∷◌, cond, nat_le, filter, map, reverse}
use Rattle.mc_task.specs.declared.task.Task.{Task}
use Rattle.mc_task.specs.declared.task.JobId.{JobId}
use Rattle.mc_task.specs.TaskSet.{task_at}
use Rattle.mc_model.specs.TaskNumbers.{period_in}
use Rattle.mc_model.specs.Rows.{ticks}
use Rattle.mc_model.specs.Pending.{KeptRelease, released, is_still_pending}
use Rattle.mc_model.specs.declared.row.Row.{Row}

-- the part of the trace before tick number d, counted from 0: all that happens by boundary d
abbrev pub up_to : ℕ → List Row → List Row
up_to d [] = []
up_to d (row ∷ g) = cond (nat_le (ticks (row ∷ g)) d) (row ∷ g) (up_to d g)

-- the deadline of a job: its release time plus its period
abbrev pub deadline : List Task → KeptRelease → ℕ
deadline set i = i.release + period_in (task_at set i.job.task.0)

-- whether the job is late: its deadline has come, and in the rows up to it the job has not ended, and is of a
-- high task or has seen no overrun
abbrev pub is_late : List Task → List Row → KeptRelease → Bool
is_late set h i = nat_le (deadline set i) (ticks h) && is_still_pending set (up_to (deadline set i) h) i

-- the late jobs, in the order of their releases
abbrev pub late : List Task → List Row → List JobId
late set h = map (λ i. i.job) (reverse (filter (is_late set h) (released h)))
