-- Which row may stand after others. Times are in ticks, and the last row of a list is the newest.
use Rattle.std.specs.Prelude.{ℕ, ◌+◌, ◌==◌, nat_le, nat_lt, if◌then◌else◌, List, [], ◌∷◌, ◌++◌, length, Option, Some, None, option_map}
use Rattle.std.specs.Option.{option_or}
use Rattle.mc_task.specs.declared.task.Task.{Task}
use Rattle.mc_task.specs.TaskSet.{task_at}
use Rattle.mc_model.specs.TaskNumbers.{period_in}
use Rattle.mc_model.specs.declared.work.WorkRow.{WorkRow}
use Rattle.work_file.specs.declared.fault.WorkCause.{WorkCause}
use Rattle.work_file.specs.declared.fault.WorkCause.TheVariants.{UnknownTask, ZeroNeed, Unsorted, TooSoon, TooMany}
use Rattle.work_file.specs.declared.work.BadRow.{BadRow}

-- the release of the last row; 0 if there is no row
abbrev pub last_release : List WorkRow → ℕ
last_release [] = 0
last_release (w ∷ []) = w.release
last_release (w ∷ v ∷ ws) = last_release (v ∷ ws)

-- the last row of task number k
abbrev pub last_of : ℕ → List WorkRow → Option WorkRow
last_of k [] = None
last_of k (w ∷ ws) = option_or (last_of k ws) (if w.task.0 == k then Some w else None)

-- a period after the release of the row; 0 if there is no row
abbrev pub period_after : ℕ → Option WorkRow → ℕ
period_after period None = 0
period_after period (Some w) = w.release + period

-- the next allowed release: 0 before the first row of task number k, otherwise its last release plus its
-- period
abbrev pub next_allowed : List Task → List WorkRow → ℕ → ℕ
next_allowed set before k = period_after (period_in (task_at set k)) (last_of k before)

-- what is wrong with the need or the release of a row that stands after these
unfoldable pub time_fault : List Task → List WorkRow → WorkRow → Option WorkCause
time_fault set before w =
    if w.need == 0 then Some ZeroNeed
    else if nat_lt w.release (last_release before) then Some Unsorted
    else if nat_lt w.release (next_allowed set before w.task.0)
    then Some (TooSoon (next_allowed set before w.task.0))
    else None

-- why a row of this task, or of none, may not stand after these
abbrev pub task_fault : List Task → List WorkRow → WorkRow → Option Task → Option WorkCause
task_fault set before w None = Some UnknownTask
task_fault set before w (Some t) = time_fault set before w

-- why a row may not stand after these
unfoldable pub row_fault : List Task → List WorkRow → WorkRow → Option WorkCause
row_fault set before w =
    if nat_le 1000000 (length before) then Some TooMany else task_fault set before w (task_at set w.task.0)

-- the first of more rows that may not stand after those before it, and why
abbrev pub first_bad_after : List Task → List WorkRow → List WorkRow → Option BadRow
first_bad_after set before [] = None
first_bad_after set before (w ∷ ws) =
    option_or (option_map (λ cause. record { index = length before; cause = cause }) (row_fault set before w))
    (first_bad_after set (before ++ w ∷ []) ws)

-- the first row that may not stand after those before it, and why
abbrev pub first_bad : List Task → List WorkRow → Option BadRow
first_bad set rows = first_bad_after set [] rows
