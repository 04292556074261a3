-- The numbers that the tasks of one processor get, as the code stores them.
use Rattle.std.specs.Prelude.{ℕ, zero, suc, List, map, get_or, Option, None, Some, if◌then◌else◌}
use Rattle.std.specs.List.{range_with_len}
use Rattle.part_fit.specs.PartWork.{is_on, number_on}

-- the number that task number k has on processor n, if it is on that processor
abbrev pub number_there : ℕ → List ℕ → ℕ → Option ℕ
number_there n of k = if is_on n of k then Some (number_on n of k) else None

-- the numbers that the first k tasks have on processor n
abbrev pub numbers_there : ℕ → List ℕ → ℕ → List (Option ℕ)
numbers_there n of k = map (λ i. number_there n of (suc i)) (range_with_len 0 k)

-- the number of task number k in a table of numbers
abbrev pub number_in : List (Option ℕ) → ℕ → Option ℕ
number_in numbers zero = None
number_in numbers (suc i) = get_or numbers i None
