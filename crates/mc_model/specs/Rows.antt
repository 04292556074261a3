-- A trace as a list of rows, THE NEWEST ROW FIRST: in `row ∷ g`, g is the prefix before the row.
use Rattle.std.specs.Prelude.{ℕ, ◌+◌, Bool, false, ◌&&◌, ◌||◌, List, [], ◌∷◌, cond, nat_lt, ◌==◌}
use Rattle.mc_task.specs.declared.task.Task.{Task}
use Rattle.mc_task.specs.declared.task.JobId.{JobId}
use Rattle.mc_task.specs.TaskSet.{task_at}
use Rattle.mc_model.specs.TaskNumbers.{period_in}
use Rattle.mc_model.specs.declared.row.Row.{Row}
use Rattle.mc_model.specs.declared.row.Row.TheVariants.{Release, Tick, Idle}

-- whether two jobs are the same job: of one task, with one number
abbrev pub same_job : JobId → JobId → Bool
same_job i j = (i.task.0 == j.task.0) && (i.count == j.count)

-- how many Tick and Idle rows there are: the number of the next tick, and the release time of a Release row
-- that comes next
abbrev pub ticks : List Row → ℕ
ticks [] = 0
ticks (Release j kept ∷ g) = ticks g
ticks (_ ∷ g) = ticks g + 1

-- how many Tick rows the job has
abbrev pub used : List Row → JobId → ℕ
used [] i = 0
used (Tick j how ∷ g) i = cond (same_job j i) 1 0 + used g i
used (_ ∷ g) i = used g i

-- how many Release rows task number k has
abbrev pub releases : List Row → ℕ → ℕ
releases [] k = 0
releases (Release j kept ∷ g) k = cond (j.task.0 == k) 1 0 + releases g k
releases (_ ∷ g) k = releases g k

-- 0 before the first release of task number k, otherwise its last release time plus its period
abbrev pub next_release : List Task → List Row → ℕ → ℕ
next_release set [] k = 0
next_release set (Release j kept ∷ g) k =
    cond (j.task.0 == k) (ticks g + period_in (task_at set k)) (next_release set g k)
next_release set (Tick j how ∷ g) k = next_release set g k
next_release set (Idle ∷ g) k = next_release set g k

-- whether boundary now is less than a period after a release of task number k
abbrev pub is_too_soon : List Task → ℕ → List Row → ℕ → Bool
is_too_soon set now [] k = false
is_too_soon set now (Release j kept ∷ g) k =
    ((j.task.0 == k) && nat_lt now (ticks g + period_in (task_at set k))) || is_too_soon set now g k
is_too_soon set now (_ ∷ g) k = is_too_soon set now g k
