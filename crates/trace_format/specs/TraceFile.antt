-- The runs that the text of a trace says, the oldest first, or the first refusal. The first record decides
-- the version.
use Rattle.std.specs.Prelude.{ℕ, ◌+◌, Bool, true, not, ◌==◌, nat_le, nat_lt, if◌then◌else◌, List, [], ◌∷◌, codes, length, find, Option, Some, None, option_map, Result, Ok, Err}
use lib.Pointwise.{pointwise}
use Rattle.std.specs.Str.{bytes_eq}
use Rattle.csv_records.specs.Fields.{field}
use Rattle.csv_records.specs.Rows.{Means, accepted_in, rows_in}
use Rattle.csv_records.specs.declared.fault.Fault.{Fault}
use Rattle.numeral.specs.Numeral.{number}
use Rattle.mc_task.specs.declared.task.Task.{Task}
use Rattle.mc_task.specs.Faults.{named}
use Rattle.mc_task.specs.Refusals.{◌>>=◌, or_refuse}
use Rattle.mc_model.specs.Sums.{total}
use Rattle.mc_model.specs.Runs.{length_of}
use Rattle.mc_model.specs.declared.row.How.TheVariants.{More}
use Rattle.mc_model.specs.declared.run.Run.{Run}
use Rattle.mc_model.specs.declared.run.Run.TheVariants as run
use Rattle.trace_format.specs.declared.version.Version.{Version}
use Rattle.trace_format.specs.declared.version.Version.TheVariants.{One, Two}
use Rattle.trace_format.specs.declared.event.Event.{Event}
use Rattle.trace_format.specs.declared.event.Event.TheVariants as event
use Rattle.trace_format.specs.declared.fault.TraceCause.{TraceCause}
use Rattle.trace_format.specs.declared.fault.TraceCause.TheVariants.{BadRecord, Header, UnknownEvent, UnknownTask, BadNumber, WrongTick, TooMany, BadLength, TooManyTicks, NotSix}
use Rattle.trace_format.specs.declared.record.RecordNumbers.{RecordNumbers}
use Rattle.trace_format.specs.Events.{event_of, task_column}

-- the header of a version; each record of that version has as many fields
abbrev pub header_words : Version → List (List ℕ)
header_words One = codes "event" ∷ codes "tick" ∷ codes "task" ∷ codes "job" ∷ codes "how" ∷ []
header_words Two =
    codes "event" ∷ codes "tick" ∷ codes "length" ∷ codes "task" ∷ codes "job" ∷ codes "how" ∷ []

-- the version that the record is the header of
abbrev pub version_of : List (List ℕ) → Option Version
version_of fields = find (λ v. pointwise bytes_eq fields (header_words v)) (One ∷ Two ∷ [])

-- the refusal of a record whose number of fields is not that of its version's header
abbrev pub wrong_width : Version → TraceCause
wrong_width One = BadRecord
wrong_width Two = NotSix

-- the number of ticks of a tick or idle record: one in version 1; none if the field is not a number
abbrev pub length_in : Version → List (List ℕ) → Option ℕ
length_in One fields = Some 1
length_in Two fields = number (field fields 2)

-- the number of the task of a release or a tick, if the set has one of that name; 0 if the record is idle
abbrev pub task_in : List Task → Version → List (List ℕ) → Event → Option ℕ
task_in set v fields event.Idle = Some 0
task_in set v fields _ = named (field fields (task_column v)) set

-- a tick, a length and a job's number, if all three are numbers
abbrev pub all_numbers : Option ℕ → Option ℕ → Option ℕ → Option RecordNumbers
all_numbers (Some t) (Some n) (Some c) = Some (record { tick = t; length = n; count = c })
all_numbers _ _ _ = None

-- the numbers of a record: a release has no ticks, and an idle record no job
abbrev pub numbers_in : Version → List (List ℕ) → Event → Option RecordNumbers
numbers_in v fields (event.Release kept) =
    all_numbers (number (field fields 1)) (Some 0) (number (field fields (task_column v + 1)))
numbers_in v fields (event.Tick how) =
    all_numbers (number (field fields 1)) (length_in v fields) (number (field fields (task_column v + 1)))
numbers_in v fields event.Idle = all_numbers (number (field fields 1)) (length_in v fields) (Some 0)

-- whether the record may stand for n ticks: a tick or idle record for at least one, and for several only if
-- its job goes on after each of them, or if it is idle
abbrev pub is_length : Event → ℕ → Bool
is_length (event.Release kept) n = true
is_length (event.Tick More) n = nat_le 1 n
is_length (event.Tick _) n = n == 1
is_length event.Idle n = nat_le 1 n

-- the run that a record says, by its event, its task number k and its other numbers
abbrev pub run_from : Event → ℕ → RecordNumbers → Run
run_from (event.Release kept) k n = run.Release (record { task = record { 0 = k }; count = n.count }) kept
run_from (event.Tick how) k n = run.Ticks (record { task = record { 0 = k }; count = n.count }) how n.length
run_from event.Idle k n = run.Idles n.length

-- the run of a record that says this event, if this tick is the next one; or the first of its refusals
abbrev pub run_at : List Task → Version → ℕ → List (List ℕ) → Event → Result Run TraceCause
run_at set v due fields said =
    or_refuse UnknownTask (task_in set v fields said) >>= λ task.
    or_refuse BadNumber (numbers_in v fields said) >>= λ n.
    if not (n.tick == due) then Err WrongTick
    else if not (is_length said n.length) then Err BadLength
    else if nat_lt 100000000 (due + n.length) then Err TooManyTicks
    else Ok (run_from said task n)

-- the run of a record after these runs, or the first of its refusals
unfoldable pub record_run : List Task → Version → List Run → List (List ℕ) → Result Run TraceCause
record_run set v before fields =
    if nat_le 2000000 (length before) then Err TooMany
    else if not (length fields == length (header_words v)) then Err (wrong_width v)
    else (or_refuse UnknownEvent (event_of v fields) >>= run_at set v (total length_of before) fields)

-- what the records after this one mean, if it is a header
abbrev pub after_header : List Task → List (List ℕ) → Option (Means Run TraceCause)
after_header set fields = option_map (record_run set) (version_of fields)

-- the runs of a text, or its first refusal; its records are as csv's reader with its defaults returns them
abbrev pub trace_file : List Task → List ℕ → Result (List Run) (Fault TraceCause)
trace_file set text = rows_in (after_header set) Header text

-- the runs of a text up to the first record that is refused; all runs if none is
abbrev pub accepted_runs : List Task → List ℕ → List Run
accepted_runs set text = accepted_in (after_header set) text
