-- The fields of a record by their columns.
use Rattle.std.specs.Prelude.{ℕ, List, [], unwrap_or}
use Rattle.csv.specs.Records.{field_at}

-- the field in a column, from 0; empty if there is none
abbrev pub field : List (List ℕ) → ℕ → List ℕ
field fields i = unwrap_or (field_at fields i) []
