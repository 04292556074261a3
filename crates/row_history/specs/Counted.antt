-- What a count of rows stands for: the rows that it took, as contracts see them.
use Rattle.std.specs.Prelude.{◌≡◌, ◌≤◌, ◌+◌, ◌^◌, List, [], ◌∷◌, ◌++◌, length, map, replicate, reverse, vec_capacity}
use Rattle.mc_model.specs.declared.row.Row.{Row}
use Rattle.row_history.specs.declared.recorder.Taken.{Taken}
use Rattle.row_history.specs.declared.recorder.RowCount.TheInside.{Inside}

-- the rows that these calls took, the newest call first: of each call its row, as many times as it took it
abbrev pub rows_taken : List Taken → List Row
rows_taken [] = []
rows_taken (t ∷ ts) = replicate t.times t.row ++ rows_taken ts

-- the calls that took rows, the newest first
abbrev pub calls_of : Inside → List Taken
calls_of a = reverse (map (λ s. s.value) a.taken.items)

-- the rows of a count, the newest first
abbrev pub counted_rows : Inside → List Row
counted_rows a = rows_taken (calls_of a)

-- the number of calls, and of the rows of each call after its first, is the number of the rows; up to 2^62 rows
-- can be counted
pub record IsCount (a : Inside) : Type 0 where
  pub number : length (counted_rows a) ≡ length a.taken.items + a.more
  pub few : length (counted_rows a) ≤ 2 ^ 62
  pub room : vec_capacity a.taken ≡ 2 ^ 62
