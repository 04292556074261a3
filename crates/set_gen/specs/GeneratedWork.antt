-- The work that is generated for a set: task number i is released at 0 and at each multiple of the i-th gap,
-- and each job takes one word for its need.
use Rattle.std.specs.Prelude.{ℕ, zero, suc, ◌+◌, ◌-◌, ◌%◌, ◌==◌, ◌&&◌, Bool, if◌then◌else◌, List, [], ◌∷◌, ◌++◌, length, map, filter, slice_index, Option, None, Some}
use Rattle.std.specs.List.{range_with_len}
use Rattle.rand_pcg.specs.Lcg.{Lcg}
use Rattle.mc_task.specs.declared.task.Task.{Task}
use Rattle.mc_task.specs.TaskSet.{task_at}
use Rattle.mc_task.specs.Kinds.{is_high}
use Rattle.mc_model.specs.Follows.{Arrival}
use Rattle.mc_model.specs.declared.work.WorkRow.{WorkRow}
use Rattle.set_gen.specs.Words.{word, rest, after}
use Rattle.set_gen.specs.GeneratedSet.{generated_set, generated_gaps, words_before}

-- whether task number i is released at boundary r
unfoldable pub is_released : List ℕ → ℕ → ℕ → Bool
is_released gaps r i = r % slice_index gaps (i - 1) == 0

-- the releases at boundary r, by task number
abbrev pub releases_at : List ℕ → ℕ → List Arrival
releases_at gaps r =
    map (λ i. record { task = i; at = r }) (filter (is_released gaps r) (range_with_len 1 (length gaps)))

-- the releases below boundary r, by release and then by task number
abbrev pub releases_below : List ℕ → ℕ → List Arrival
releases_below gaps zero = []
releases_below gaps (suc r) = releases_below gaps r ++ releases_at gaps r

-- the need of a job of the task, by the job's word: rarely a high task's high budget, otherwise 1 to the low
-- budget
unfoldable pub need_in : Option Task → ℕ → ℕ
need_in None w = 0
need_in (Some t) w = if is_high t.level && w % 64 == 0 then t.high else 1 + w % t.low

-- the job of a release, by its word
unfoldable pub job_row : List Task → Arrival → ℕ → WorkRow
job_row ts a w = record { task = record { 0 = a.task }; release = a.at; need = need_in (task_at ts a.task) w }

-- the jobs of these releases, each with the next word
abbrev pub job_rows : Lcg → List Task → List Arrival → List WorkRow
job_rows words set [] = []
job_rows words set (a ∷ more) = job_row set a (word words) ∷ job_rows (rest words) set more

-- the work of n tasks with releases before this many ticks, generated from the words that the set leaves
unfoldable pub generated_work : Lcg → ℕ → ℕ → List WorkRow
generated_work words n ticks =
    job_rows (after (words_before n) words) (generated_set words n)
    (releases_below (generated_gaps words n) ticks)
