-- The rows of a schedule by their numbers, where old rows may be gone. The oldest row is number 0.
use Rattle.std.specs.Prelude.{◌≡◌, ◌≢◌, ◌↔◌, ◌⊎◌, ◌≤◌, ◌<◌, ◌+◌, ◌-◌, ◌^◌, ◌==◌, ◌&&◌, Bool, false, cond, ℕ, List, [], ◌∷◌, length, map, Some, IfSome, slice_get, slice_index_or}
use Rattle.mc_model.specs.declared.row.Row.{Row}
use Rattle.edfvd_c.specs.declared.scheduler.latest.Lookup.{Lookup}
use Rattle.edfvd_c.specs.declared.scheduler.latest.Lookup.TheVariants.{Here, Gone, NotYet}
use Rattle.edfvd_c.specs.declared.scheduler.latest.RunBegin.{RunBegin}
use Rattle.edfvd_c.specs.declared.row.CRow.{CRow}
use Rattle.edfvd_c.specs.Row.{no_row, row_numbers}
use Rattle.edfvd_c.specs.Status.{OK, NO_ROW, GONE}

-- two rows are equal, as their numbers are
abbrev pub same_row : Row → Row → Bool
same_row a b =
    ((row_numbers a).event == (row_numbers b).event)
    && (((row_numbers a).task == (row_numbers b).task) && ((row_numbers a).count == (row_numbers b).count))

-- the row equals the newest of these, which stands first
abbrev pub is_again : Row → List Row → Bool
is_again row [] = false
is_again row (newest ∷ h) = same_row newest row

-- the rows that differ from the row before them, each with its number, the newest first: with each of them a run of equal rows
-- begins
abbrev pub begins : List Row → List RunBegin
begins [] = []
begins (row ∷ h) = cond (is_again row h) (begins h) (record { row = row; number = length h } ∷ begins h)

-- the number of the oldest row of the latest 256 runs, in a schedule whose newest row stands first; 0 if there are no more runs
abbrev pub latest_from : List Row → ℕ
latest_from h = slice_index_or (map (λ (b : RunBegin). b.number) (begins h)) 255 0

-- among these rows, the oldest first, exactly this number of rows are equal from this row on; if there are more than 2^32 - 1,
-- the number is 2^32 - 1
pub record AreEqualFrom (rows : List Row) (number times : ℕ) : Type 0 where
  pub some : 1 ≤ times
  pub equal : (i : ℕ) → i < times → slice_get rows (number + i) ≡ slice_get rows number
  pub longest : (times ≡ 2 ^ 32 - 1) ⊎ (slice_get rows (number + times) ≢ slice_get rows number)

-- what is found of the row of a number among these rows, the oldest first, which are kept from number `first` on: the row
-- and how many equal ones begin with it, or that it is gone, or not there yet
abbrev pub IsLookup : ℕ → List Row → ℕ → Lookup → Type 0
IsLookup first rows number (Here row times) =
    (first ≤ number) × (slice_get rows number ≡ Some row) × AreEqualFrom rows number times
IsLookup first rows number Gone = (number < first) × (number < length rows)
IsLookup first rows number NotYet = (first ≤ number) × (length rows ≤ number)

-- the status for the row of a number in a schedule of this many rows, which are kept from number `first` on: OK
-- exactly if the row is kept, NO_ROW exactly if it is not there yet, and GONE exactly if it is gone
pub record IsRowStatus (first many place status : ℕ) : Type 0 where
  pub kept : (status ≡ OK) ↔ ((first ≤ place) × (place < many))
  pub not_yet : (status ≡ NO_ROW) ↔ (many ≤ place)
  pub gone : (status ≡ GONE) ↔ (place < first)

-- a row is found by a call that returns this status and stores these numbers: the row of this number among these rows, the
-- oldest first, which are kept from number `first` on
pub record IsRowFound (first : ℕ) (rows : List Row) (place status : ℕ) (found : CRow) : Type 0 where
  pub status_is : IsRowStatus first (length rows) place status
  pub row : status ≡ OK → IfSome (slice_get rows place) (λ r. found ≡ row_numbers r)
  pub none : status ≢ OK → found ≡ no_row

-- the row and how many equal ones begin with it are found by a call that returns this status
pub record AreRowsFound (first : ℕ) (rows : List Row) (place status : ℕ) (found : CRow) (times : ℕ) : Type 0 where
  pub found_is : IsRowFound first rows place status found
  pub equal : status ≡ OK → AreEqualFrom rows place times
  pub none : status ≢ OK → times ≡ 0
