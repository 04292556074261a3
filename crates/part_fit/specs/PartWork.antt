-- The work of the tasks of one processor.
use Rattle.std.specs.Prelude.{ℕ, zero, suc, ◌==◌, Bool, false, List, take, map, filter, count_by, slice_get, Option, None}
use Rattle.std.specs.Option.{option_map_or}
use Rattle.mc_model.specs.declared.work.WorkRow.{WorkRow}

-- the processor of task number k
abbrev pub processor_of : List ℕ → ℕ → Option ℕ
processor_of of zero = None
processor_of of (suc i) = slice_get of i

-- whether task number k is on processor n
abbrev pub is_on : ℕ → List ℕ → ℕ → Bool
is_on n of k = option_map_or (λ p. p == n) (processor_of of k) false

-- how many of the first k tasks are on processor n; for a task on it, its number there
abbrev pub number_on : ℕ → List ℕ → ℕ → ℕ
number_on n of k = count_by (λ p. p == n) (take k of)

-- the row with the task's number on processor n
abbrev pub renumbered : ℕ → List ℕ → WorkRow → WorkRow
renumbered n of w = record w { task = record { 0 = number_on n of w.task.0 } }

-- the rows of the tasks on processor n, in order and with their numbers there
unfoldable pub part_rows : ℕ → List ℕ → List WorkRow → List WorkRow
part_rows n of work = map (renumbered n of) (filter (λ w. is_on n of w.task.0) work)
