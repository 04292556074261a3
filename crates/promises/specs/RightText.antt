-- Which traces are written, and what is written about traces that are found legal or summed up, where the
-- shelf and the sink expose their bytes and have no fault. The newest row of a trace stands first here.
use Rattle.std.specs.Prelude.{◌≡◌, ℕ, List, ◌++◌, reverse, Option, Some, Ok, flat_map, zip}
use Rattle.std.specs.List.{AllZip}
use Rattle.mc_task.specs.declared.task.Task.{Task}
use Rattle.mc_task.specs.declared.task.Rule.{Rule}
use Rattle.mc_task.specs.TaskSet.{Set}
use Rattle.mc_world.specs.Shelf.{Files}
use Rattle.mc_model.specs.declared.row.Row.{Row}
use Rattle.mc_model.specs.declared.run.Run.{Run}
use Rattle.mc_model.specs.declared.work.WorkRow.{WorkRow}
use Rattle.mc_model.specs.Follows.{Follows}
use Rattle.mc_model.specs.LiveTrace.{LiveTrace}
use Rattle.mc_model.specs.TraceText.{trace_text}
use Rattle.trace_commands.specs.declared.action.TraceAction.{TraceAction}
use Rattle.trace_commands.specs.declared.action.TraceAction.TheVariants.{JudgeBy}
use Rattle.command_line.specs.declared.form.Form.{Form}
use Rattle.command_line.specs.declared.form.Form.TheVariants as form
use Rattle.command.specs.Admitted.{with_rule}
use Rattle.trace_commands.specs.OnTrace.{good_text}
use Rattle.run_commands.specs.Soak.{workload_set, soak_text, IsSoaked}
use Rattle.part_commands.specs.Parted.{Parted, spread}
use Rattle.part_commands.specs.RunAll.{used, IsTraceOn, trace_lines}
use Rattle.promises.specs.Headline.{bytes_of, IsAdmitted, trace_of, SaysTrace, IsTimely, IsSpread}
use Rattle.promises.specs.Complete.{SaysWork}

-- after the bytes that were there, the text of the trace was written
abbrev pub Writes : List Task → List Row → List ℕ → Option (List ℕ) → Type 0
Writes set h old new = new ≡ Some (old ++ trace_text set (reverse h))

-- with status 0 `run` has written the one trace of this many ticks that follows from the set in the task
-- file, the rule that the test gives it, and the work in the work file
abbrev pub WritesRun : ℕ → List ℕ → List ℕ → List ℕ → ℕ → Option (List ℕ) → Type 0
WritesRun ticks bytes more old ended new =
    ended ≡ 0 → (set : Set) × (rule : Rule) × (work : List WorkRow) × (h : List Row)
    × IsAdmitted bytes set rule × SaysWork more set.tasks work
    × Follows set.tasks rule work ticks h × Writes set.tasks h old new

-- with status 0 `live` has written a live trace of this many ticks, of the set in the task file, under the
-- rule that the test gives it
abbrev pub WritesLive : ℕ → List ℕ → List ℕ → ℕ → Option (List ℕ) → Type 0
WritesLive ticks bytes old ended new = ended ≡ 0 → (set : Set) × (rule : Rule) × (h : List Row)
    × IsAdmitted bytes set rule × LiveTrace set.tasks rule ticks h × Writes set.tasks h old new

-- after the bytes that were there, the text of a trace was written for each processor with tasks
abbrev pub WritesAll : ℕ → Parted → List (List Row) → List ℕ → Option (List ℕ) → Type 0
WritesAll m parted traces old new =
    new ≡ Some (old ++ flat_map (trace_lines parted) (zip (used m parted) traces))

-- with status 0 `runall` has written, for each processor with tasks, the one trace of this many ticks that
-- follows from these tasks, their rule and their work
abbrev pub WritesParts : ℕ → ℕ → List ℕ → List ℕ → List ℕ → ℕ → Option (List ℕ) → Type 0
WritesParts ticks m bytes more old ended new =
    ended ≡ 0 → (set : Set) × (of : List ℕ) × (work : List WorkRow) × (traces : List (List Row))
    × IsSpread m bytes set of × SaysWork more set.tasks work
    × AllZip (IsTraceOn ticks (spread set.tasks of) work) (used m (spread set.tasks of)) traces
    × WritesAll m (spread set.tasks of) traces old new

-- with status 0 `judge`, `chart`, `report` and `migrate` have written what the command writes of the trace in
-- the trace file
abbrev pub WritesAbout : TraceAction → List ℕ → List ℕ → List ℕ → ℕ → Option (List ℕ) → Type 0
WritesAbout action bytes more old ended new =
    ended ≡ 0 → (set : Set) × (rule : Rule) × (runs : List Run) × (text : List ℕ)
    × IsAdmitted bytes set rule × SaysTrace more set.tasks runs
    × (good_text action (with_rule rule set) (trace_of runs) ≡ Ok text) × (new ≡ Some (old ++ text))

-- what each command on a trace writes; nothing is promised here of `judge` under a rule that the command line
-- gives
abbrev pub WritesAboutUnder : TraceAction → List ℕ → List ℕ → List ℕ → ℕ → Option (List ℕ) → Type 0
WritesAboutUnder (JudgeBy p q) bytes more old ended new = Unit {0}
WritesAboutUnder action bytes more old ended new = WritesAbout action bytes more old ended new

-- with status 0 `soak` has written its text about the trace of the workload, which is legal and keeps the
-- deadlines
abbrev pub SumsUp : ℕ → ℕ → ℕ → List ℕ → ℕ → Option (List ℕ) → Type 0
SumsUp number tasks ticks old ended new = ended ≡ 0 → (rule : Rule) × (h : List Row)
    × IsSoaked number tasks ticks rule h × IsTimely (workload_set number tasks) rule h
    × (new ≡ Some (old ++ soak_text number tasks ticks (workload_set number tasks) rule h))

-- what each command that writes a trace, or writes about one, has written: by the files, the bytes that were
-- written before, the status, and the bytes that are written after
abbrev pub RightText : Option Form → Files → List ℕ → ℕ → Option (List ℕ) → Type 0
RightText (Some (form.Run c)) files old ended new =
    WritesRun c.ticks (bytes_of files c.tasks) (bytes_of files c.work) old ended new
RightText (Some (form.Live c)) files old ended new = WritesLive c.ticks (bytes_of files c.tasks) old ended new
RightText (Some (form.Soak c)) files old ended new = SumsUp c.number c.tasks c.ticks old ended new
RightText (Some (form.RunAll c)) files old ended new =
    WritesParts c.ticks c.processors (bytes_of files c.tasks) (bytes_of files c.work) old ended new
RightText (Some (form.OnTrace c)) files old ended new =
    WritesAboutUnder c.action (bytes_of files c.tasks) (bytes_of files c.trace) old ended new
RightText form files old ended new = Unit {0}
