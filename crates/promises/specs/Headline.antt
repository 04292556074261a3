-- The headline of the program, where the shelf and the sink expose their bytes and have no fault: it
-- schedules a set exactly where the published test holds, and every trace that it writes, or finds legal for
-- such a set, keeps the deadlines. RightText says which traces these are, and Complete that nothing is
-- refused without reason. A trace has its newest row first, and a list of runs its oldest run first.
use Rattle.std.specs.Prelude.{◌≡◌, ◌⊎◌, ℕ, ◌≤◌, ◌^◌, List, [], ◌++◌, length, reverse, codes, decimal, Option, Some, None, Ok, Err, flat_map, zip, unwrap_or}
use Rattle.std.specs.List.{AllZip}
use Rattle.mc_task.specs.declared.task.Task.{Task}
use Rattle.mc_task.specs.declared.task.Rule.{Rule}
use Rattle.mc_task.specs.TaskSet.{Set}
use Rattle.mc_world.specs.Shelf.{Files}
use Rattle.mc_model.specs.declared.row.Row.{Row}
use Rattle.mc_model.specs.declared.run.Run.{Run}
use Rattle.mc_model.specs.Loads.{IsWithinRange}
use Rattle.mc_model.specs.Rows.{ticks}
use Rattle.mc_model.specs.Test.{published, test}
use Rattle.mc_model.specs.Legal.{Legal}
use Rattle.mc_model.specs.Runs.{expand}
use Rattle.mc_model.specs.Promise.{KeepsDeadlines}
use Rattle.trace_commands.specs.declared.action.TraceAction.{TraceAction}
use Rattle.trace_commands.specs.declared.action.TraceAction.TheVariants.{JudgeBy, Migrate}
use Rattle.command_line.specs.declared.form.Form.{Form}
use Rattle.command_line.specs.declared.form.Form.TheVariants as form
use Rattle.task_file.specs.TaskFile.{task_file}
use Rattle.trace_format.specs.TraceFile.{trace_file}
use Rattle.part_fit.specs.FirstFit.{first_fit}
use Rattle.part_commands.specs.Parted.{Parted, tasks_on, spread}
use Rattle.part_commands.specs.RunAll.{used}

-- the bytes of the file of this name; no bytes where there is no such file
abbrev pub bytes_of : Files → List ℕ → List ℕ
bytes_of files name = unwrap_or (files name) []

-- the bytes are a task file, of at most 2^24 bytes, and it says this set
abbrev pub SaysSet : List ℕ → Set → Type 0
SaysSet bytes set = (length bytes ≤ 2 ^ 24) × (task_file bytes ≡ Ok set)

-- the task file says this set, the least common multiple of its periods is at most 2^60, and the test gives
-- it this rule
pub record IsAdmitted (bytes : List ℕ) (set : Set) (rule : Rule) : Type 0 where
  pub says : SaysSet bytes set
  pub range : IsWithinRange set.tasks
  pub test : test set ≡ Some rule

-- a set within range is refused, with status 1, exactly where the published test gives it no rule, unless
-- memory runs out (status 9)
pub record SchedulesExactly (bytes : List ℕ) (ended : ℕ) : Type 0 where
  pub refused : ended ≡ 1 → (s : Set) × SaysSet bytes s × IsWithinRange s.tasks × (published s.tasks ≡ None)
  pub refuses : (set : Set) → SaysSet bytes set → IsWithinRange set.tasks → published set.tasks ≡ None
      → (ended ≡ 1) ⊎ (ended ≡ 9)

-- the trace of these runs: the rows that they stand for, the newest first
abbrev pub trace_of : List Run → List Row
trace_of runs = reverse (expand runs)

-- the bytes are a trace file, of at most 2^27 bytes, and it says these runs of the set
abbrev pub SaysTrace : List ℕ → List Task → List Run → Type 0
SaysTrace bytes set runs = (length bytes ≤ 2 ^ 27) × (trace_file set bytes ≡ Ok runs)

-- the trace is legal, and keeps the deadlines
abbrev pub IsTimely : List Task → Rule → List Row → Type 0
IsTimely set rule h = Legal set rule h × KeepsDeadlines set rule h

-- the bytes are a trace file of the set, and the trace of its runs has n ticks, is legal and keeps the deadlines
abbrev pub SaysTimely : ℕ → List ℕ → List Task → Rule → Type 0
SaysTimely n bytes set rule = (runs : List Run) × SaysTrace bytes set runs
    × (ticks (trace_of runs) ≡ n) × IsTimely set rule (trace_of runs)

-- what `run` and `live` write with status 0 is a trace file of a set that the test admits, and the trace in
-- it has the n ticks that the command asks for, is legal under the test's rule and keeps the deadlines
abbrev pub WritesTimely : ℕ → List ℕ → List ℕ → ℕ → Option (List ℕ) → Type 0
WritesTimely n bytes old ended new = ended ≡ 0 → (set : Set) × (rule : Rule) × (text : List ℕ)
    × IsAdmitted bytes set rule × (new ≡ Some (old ++ text)) × SaysTimely n text set.tasks rule

-- what `migrate` writes with status 0 is a trace file whose runs stand for the same rows as those of the file
-- that it read; the other commands on a trace write no trace
abbrev pub WritesAgain : TraceAction → List Task → List Run → List ℕ → Option (List ℕ) → Type 0
WritesAgain Migrate set runs old new = (text : List ℕ) × (again : List Run)
    × (new ≡ Some (old ++ text)) × (trace_file set text ≡ Ok again) × (expand again ≡ expand runs)
WritesAgain action set runs old new = Unit {0}

-- what `judge`, `chart`, `report` and `migrate` promise of the trace file that they read, under the rule that
-- the test gives the set of the task file
pub record Finds (action : TraceAction) (bytes more old : List ℕ) (ended : ℕ)
    (new : Option (List ℕ)) : Type 0 where
  -- with status 0 the trace in the file is legal and keeps the deadlines, and `migrate` has written it
  pub finds : ended ≡ 0 → (set : Set) × (rule : Rule) × (runs : List Run)
      × IsAdmitted bytes set rule × SaysTrace more set.tasks runs × IsTimely set.tasks rule (trace_of runs)
      × WritesAgain action set.tasks runs old new
  -- status 6 comes only where the trace in the file is illegal, never where it is legal and a job is late
  pub illegal : ended ≡ 6 → (set : Set) × (rule : Rule) × (runs : List Run)
      × IsAdmitted bytes set rule × SaysTrace more set.tasks runs × (Legal set.tasks rule (trace_of runs) → ⊥)

-- the promise of each command on a trace; `judge` under a rule that the words of the command line give has
-- none
abbrev pub FindsUnder : TraceAction → List ℕ → List ℕ → List ℕ → ℕ → Option (List ℕ) → Type 0
FindsUnder (JudgeBy p q) bytes more old ended new = Unit {0}
FindsUnder action bytes more old ended new =
    SchedulesExactly bytes ended × Finds action bytes more old ended new

-- the task file says this set, and first fit puts its tasks on these processors, from 1 to m
abbrev pub IsSpread : ℕ → List ℕ → Set → List ℕ → Type 0
IsSpread m bytes set of = SaysSet bytes set × (first_fit set.tasks m ≡ Ok of)

-- a set is refused, with status 12, exactly where first fit finds none of processors 1 to m for one of its
-- tasks, unless memory runs out (status 9)
pub record SpreadsExactly (m : ℕ) (bytes : List ℕ) (ended : ℕ) : Type 0 where
  pub refused : ended ≡ 12 → (set : Set) × (task : ℕ) × SaysSet bytes set × (first_fit set.tasks m ≡ Err task)
  pub refuses : (s : Set) (k : ℕ) → SaysSet bytes s → first_fit s.tasks m ≡ Err k → (ended ≡ 12) ⊎ (ended ≡ 9)

-- the text is a trace file of the tasks on a processor; the trace in it has n ticks, is legal under the rule
-- that the published test gives these tasks, and keeps the deadlines
abbrev pub IsTimelyOn : ℕ → Parted → ℕ → List ℕ → Type 0
IsTimelyOn n parted on text = (rule : Rule)
    × (published (tasks_on parted on) ≡ Some rule) × SaysTimely n text (tasks_on parted on) rule

-- what is written of a processor: a line with its number, and then the text of its trace
abbrev pub lines_of : ℕ × List ℕ → List ℕ
lines_of on = codes "processor " ++ (decimal on.0 ++ (codes "\n" ++ on.1))

-- what `runall` writes with status 0 is a trace file for each processor with tasks, from the lowest number
-- on, and each of these traces has the n ticks that the command asks for, is legal and keeps the deadlines
abbrev pub WritesAllTimely : ℕ → ℕ → List ℕ → List ℕ → ℕ → Option (List ℕ) → Type 0
WritesAllTimely n m bytes old ended new = ended ≡ 0 → (set : Set) × (of : List ℕ) × (texts : List (List ℕ))
    × IsSpread m bytes set of
    × AllZip (IsTimelyOn n (spread set.tasks of)) (used m (spread set.tasks of)) texts
    × (new ≡ Some (old ++ flat_map lines_of (zip (used m (spread set.tasks of)) texts)))

-- the headline, for each command that schedules a set, or judges a trace under the test's rule: by the files,
-- the bytes that were written before, the status, and the bytes that are written after. `soak` writes no trace:
-- RightText says that the trace that it sums up keeps the deadlines.
abbrev pub Headline : Option Form → Files → List ℕ → ℕ → Option (List ℕ) → Type 0
Headline (Some (form.Check c)) files old ended new = SchedulesExactly (bytes_of files c.tasks) ended
Headline (Some (form.Run c)) files old ended new =
    SchedulesExactly (bytes_of files c.tasks) ended
    × WritesTimely c.ticks (bytes_of files c.tasks) old ended new
Headline (Some (form.Live c)) files old ended new =
    SchedulesExactly (bytes_of files c.tasks) ended
    × WritesTimely c.ticks (bytes_of files c.tasks) old ended new
Headline (Some (form.RunAll c)) files old ended new =
    SpreadsExactly c.processors (bytes_of files c.tasks) ended
    × WritesAllTimely c.ticks c.processors (bytes_of files c.tasks) old ended new
Headline (Some (form.OnTrace c)) files old ended new =
    FindsUnder c.action (bytes_of files c.tasks) (bytes_of files c.trace) old ended new
Headline form files old ended new = Unit {0}
