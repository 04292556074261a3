-- What the words of a record say.
use Rattle.std.specs.Prelude.{ℕ, ◌+◌, Bool, true, false, ◌&&◌, ◌==◌, if◌then◌else◌, List, [], ◌∷◌, codes, length, find, Option, Some, None, option_map}
use Rattle.std.specs.Str.{bytes_eq}
use Rattle.csv_records.specs.Fields.{field}
use Rattle.mc_model.specs.TraceText.{kept_word, how_word}
use Rattle.mc_model.specs.declared.row.How.TheVariants.{More, Done, Stop, Over}
use Rattle.trace_format.specs.declared.event.Event.{Event}
use Rattle.trace_format.specs.declared.event.Event.TheVariants.{Release, Tick, Idle}
use Rattle.trace_format.specs.declared.version.Version.{Version}
use Rattle.trace_format.specs.declared.version.Version.TheVariants.{One, Two}

-- the release that the last field of a record says: kept or dropped
unfoldable pub release_event : List ℕ → Option Event
release_event how = option_map Release (find (λ kept. bytes_eq how (kept_word kept)) (true ∷ false ∷ []))

-- the tick that the last field of a record says, by the word for how it ended
unfoldable pub tick_event : List ℕ → Option Event
tick_event how = option_map Tick (find (λ h. bytes_eq how (how_word h)) (More ∷ Done ∷ Stop ∷ Over ∷ []))

-- an idle tick, if the fields of the task, the job and the outcome are empty
unfoldable pub idle_event : List ℕ → List ℕ → List ℕ → Option Event
idle_event task job how = if (length task == 0 && length job == 0) && length how == 0 then Some Idle else None

-- the column of the task's field; the fields of the job and of the outcome come after it
abbrev pub task_column : Version → ℕ
task_column One = 2
task_column Two = 3

-- the column of the length: version 1 has none
abbrev pub length_column : Version → Option ℕ
length_column One = None
length_column Two = Some 2

-- whether the record has no length: version 1 has no such field, and in version 2 it is empty
abbrev pub has_no_length : Version → List (List ℕ) → Bool
has_no_length One fields = true
has_no_length Two fields = length (field fields 2) == 0

-- what the record says, by its first field and the fields that such a record needs
unfoldable pub event_of : Version → List (List ℕ) → Option Event
event_of v fields =
    if bytes_eq (field fields 0) (codes "release")
    then (if has_no_length v fields then release_event (field fields (task_column v + 2)) else None)
    else if bytes_eq (field fields 0) (codes "tick") then tick_event (field fields (task_column v + 2))
    else if bytes_eq (field fields 0) (codes "idle")
    then idle_event (field fields (task_column v)) (field fields (task_column v + 1))
    (field fields (task_column v + 2))
    else None
