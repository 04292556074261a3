-- The rows that the records of a work file say, or the first refusal.
use Rattle.std.specs.Prelude.{ℕ, Bool, ◌==◌, nat_le, if◌then◌else◌, List, [], ◌∷◌, codes, length, Option, Some, None, Result, Ok, Err}
use lib.Pointwise.{pointwise}
use Rattle.std.specs.Str.{bytes_eq}
use Rattle.csv_records.specs.Fields.{field}
use Rattle.csv_records.specs.Rows.{Means, rows_in}
use Rattle.csv_records.specs.declared.fault.Fault.{Fault}
use Rattle.mc_task.specs.declared.task.Task.{Task}
use Rattle.mc_task.specs.Faults.{named}
use Rattle.mc_model.specs.declared.work.WorkRow.{WorkRow}
use Rattle.work_file.specs.declared.fault.WorkCause.{WorkCause}
use Rattle.work_file.specs.declared.fault.WorkCause.TheVariants.{BadRecord, Header, UnknownTask, BadNumber, TooMany}
use Rattle.numeral.specs.Numeral.{number}
use Rattle.work_file.specs.Rows.{time_fault}

-- the record is `task,release,need`
abbrev pub is_header : List (List ℕ) → Bool
is_header fields = pointwise bytes_eq fields (codes "task" ∷ codes "release" ∷ codes "need" ∷ [])

-- the row of a task, a release and a need, if both are numbers
abbrev pub numbered_row : ℕ → Option ℕ → Option ℕ → Result WorkRow WorkCause
numbered_row task None need = Err BadNumber
numbered_row task (Some release) None = Err BadNumber
numbered_row task (Some release) (Some need) =
    Ok (record { task = record { 0 = task }; release = release; need = need })

-- the row of a task, or of none, with the release and the need in these fields
abbrev pub named_row : Option ℕ → List (List ℕ) → Result WorkRow WorkCause
named_row None fields = Err UnknownTask
named_row (Some task) fields = numbered_row task (number (field fields 1)) (number (field fields 2))

-- the row that three fields say
abbrev pub row_of : List Task → List (List ℕ) → Result WorkRow WorkCause
row_of set fields = named_row (named (field fields 0) set) fields

-- the row, if nothing is wrong
abbrev pub row_unless : Option WorkCause → WorkRow → Result WorkRow WorkCause
row_unless None w = Ok w
row_unless (Some cause) w = Err cause

-- the row, if its need and its release may stand after these rows
abbrev pub in_time : List Task → List WorkRow → Result WorkRow WorkCause → Result WorkRow WorkCause
in_time set before (Err cause) = Err cause
in_time set before (Ok w) = row_unless (time_fault set before w) w

-- the row of a record after these rows
unfoldable pub record_row : List Task → List WorkRow → List (List ℕ) → Result WorkRow WorkCause
record_row set before fields =
    if nat_le 1000000 (length before) then Err TooMany
    else if length fields == 3 then in_time set before (row_of set fields) else Err BadRecord

-- what the records after this one mean, if it is the header
abbrev pub after_header : List Task → List (List ℕ) → Option (Means WorkRow WorkCause)
after_header set fields = if is_header fields then Some (record_row set) else None

-- the rows that a file of these bytes says, or the first refusal
abbrev pub work_in : List Task → List ℕ → Result (List WorkRow) (Fault WorkCause)
work_in set bytes = rows_in (after_header set) Header bytes
