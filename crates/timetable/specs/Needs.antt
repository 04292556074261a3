-- The need of each task's latest job.
use Rattle.std.specs.Prelude.{◌≡◌, ℕ, ◌+◌, ◌<◌, List, [], ◌∷◌, Some, cond, slice_get, take, ◌==◌}
use Rattle.mc_model.specs.declared.work.WorkRow.{WorkRow}
use Rattle.mc_model.specs.Follows.{need_of}
use Rattle.timetable.specs.declared.needs.Needs.{Needs}

-- how many of these rows are of task number k
abbrev pub rows_of : ℕ → List WorkRow → ℕ
rows_of k [] = 0
rows_of k (w ∷ ws) = cond (w.task.0 == k) 1 0 + rows_of k ws

-- the need of the latest row of task number k among the first rows of the work; 0 if there is none
abbrev pub latest_need : List WorkRow → ℕ → ℕ → ℕ
latest_need work taken k = need_of work k (rows_of k (take taken work))

-- the stored need of each task is that of its latest row among those that were taken
abbrev pub Tracks : List WorkRow → ℕ → Needs → Type 0
Tracks work taken p = (i : ℕ) → i < 128 → slice_get p.needs i ≡ Some (latest_need work taken (i + 1))
