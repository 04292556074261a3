-- The rows that the records of a text say: a header, then rows, each read after the rows before it; or the
-- first refusal.
use Rattle.std.specs.Prelude.{◌≡◌, ℕ, ◌+◌, List, [], ◌∷◌, ◌++◌, length, take, slice_get, Option, None, Some, Result, Ok, Err}
use Rattle.std.specs.Option.{option_map_or}
use Rattle.csv.specs.Reading.{default_config, records, strip_bom}
use Rattle.csv_records.specs.declared.fault.Fault.{Fault}
use Rattle.csv_records.specs.declared.fault.Fault.TheVariants.{Memory, At}

-- what a record means after some rows: one more row, or the cause of its refusal
abbrev pub Means : Type 0 → Type 0 → Type 0
Means Row Cause = List Row → List (List ℕ) → Result Row Cause

-- what is read after these rows: one more row if the next record means one, otherwise its refusal with its
-- line
abbrev pub rows_with : {Row Cause : Type 0} → List Row → (List Row → Result (List Row) (Fault Cause))
    → Result Row Cause → Result (List Row) (Fault Cause)
rows_with before more (Err cause) = Err (At (length before + 2) cause)
rows_with before more (Ok row) = more (before ++ row ∷ [])

-- the record means one row more, which is taken after the rows before it, or it is refused for this cause
abbrev pub IsTaken : {Row Cause : Type 0} → (List Row → Type 0) → List Row → Option Cause → Result Row Cause → Type 0
IsTaken {Row = Row} took before None says = (row : Row) × (says ≡ Ok row) × took (before ++ row ∷ [])
IsTaken took before (Some cause) says = says ≡ Err cause

-- these rows and then the rows of the records, or the first refusal
abbrev pub rows_from : {R C : Type 0} → Means R C → List (List (List ℕ)) → List R → Result (List R) (Fault C)
rows_from means [] before = Ok before
rows_from means (fields ∷ left) before = rows_with before (rows_from means left) (means before fields)

-- the rows of these records: the first is the header, which says what the records after it mean
abbrev pub rows_of : {Row Cause : Type 0} → (List (List ℕ) → Option (Means Row Cause)) → Cause
    → List (List (List ℕ)) → Result (List Row) (Fault Cause)
rows_of header none [] = Err (At 1 none)
rows_of header none (first ∷ left) = option_map_or (λ m. rows_from m left []) (header first) (Err (At 1 none))

-- the rows of a text: those of its records, as csv's reader with its defaults returns them, without a byte
-- order mark
abbrev pub rows_in : {Row Cause : Type 0} → (List (List ℕ) → Option (Means Row Cause)) → Cause
    → List ℕ → Result (List Row) (Fault Cause)
rows_in header no_header text = rows_of header no_header (records default_config (strip_bom text))

-- what is accepted after these rows: one more row if the next record means one, and what is accepted after it; otherwise
-- none
abbrev pub accepted_with : {Row Cause : Type 0} → List Row → (List Row → List Row) → Result Row Cause → List Row
accepted_with before more (Err cause) = before
accepted_with before more (Ok row) = more (before ++ row ∷ [])

-- these rows and then the rows of the records, up to the first record that is refused
abbrev pub accepted_from : {R C : Type 0} → Means R C → List (List (List ℕ)) → List R → List R
accepted_from means [] before = before
accepted_from means (fields ∷ left) before = accepted_with before (accepted_from means left) (means before fields)

-- the rows of these records up to the first record that is refused; none if that is the header
abbrev pub accepted_of : {Row Cause : Type 0} → (List (List ℕ) → Option (Means Row Cause)) → List (List (List ℕ)) → List Row
accepted_of header [] = []
accepted_of header (first ∷ left) = option_map_or (λ m. accepted_from m left []) (header first) []

-- the rows of a text up to the first record that is refused; all rows if none is
abbrev pub accepted_in : {Row Cause : Type 0} → (List (List ℕ) → Option (Means Row Cause)) → List ℕ → List Row
accepted_in header text = accepted_of header (records default_config (strip_bom text))

-- reading ends after these rows more: there are no further records, or the next record is refused
abbrev pub EndsWith : {Row Cause : Type 0} → Means Row Cause → List (List (List ℕ)) → List Row → List Row
    → Result (List Row) (Fault Cause) → Type 0
EndsWith means records before more (Ok rows) = (rows ≡ before ++ more) × (length more ≡ length records)
EndsWith means records before more (Err Memory) = ⊥
EndsWith means records before more (Err (At line cause)) =
    (fields : List (List ℕ)) × (slice_get records (length more) ≡ Some fields)
    × (means (before ++ more) fields ≡ Err cause) × (line ≡ length (before ++ more) + 2)

-- what is read of records after some rows: record by record one row more, up to the end or to a refusal
pub record IsReadEach {Row Cause : Type 0} (means : Means Row Cause) (records : List (List (List ℕ)))
    (before : List Row)
    (read : Result (List Row) (Fault Cause)) : Type 0 where
  pub more : List Row
  pub each : (i : ℕ) (fields : List (List ℕ)) (row : Row) → slice_get records i ≡ Some fields
      → slice_get more i ≡ Some row
      → means (before ++ take i more) fields ≡ Ok row
  pub ends : EndsWith means records before more read

-- law: rows are read record by record, whatever the records mean
abbrev pub EachIsRead : Type 0 → Type 0 → Type 0
EachIsRead Row Cause = (means : Means Row Cause) (records : List (List (List ℕ))) (before : List Row)
    → IsReadEach means records before (rows_from means records before)
