-- Nothing is refused without reason, where the shelf and the sink expose their bytes and have no fault: the
-- commands that schedule a set, or judge a trace, succeed for valid files. The newest row of a trace stands
-- first here.
use Rattle.std.specs.Prelude.{◌≡◌, ◌⊎◌, ℕ, ◌≤◌, ◌^◌, List, [], length, Option, Some, Ok}
use Rattle.mc_task.specs.declared.task.Task.{Task}
use Rattle.mc_task.specs.declared.task.Rule.{Rule}
use Rattle.mc_task.specs.declared.task.Rule.TheVariants.{Virtual}
use Rattle.mc_task.specs.TaskSet.{Set}
use Rattle.mc_world.specs.Shelf.{Files}
use Rattle.mc_model.specs.declared.row.Row.{Row}
use Rattle.mc_model.specs.declared.run.Run.{Run}
use Rattle.mc_model.specs.declared.work.WorkRow.{WorkRow}
use Rattle.mc_model.specs.Rows.{ticks}
use Rattle.mc_model.specs.Legal.{Legal}
use Rattle.mc_model.specs.Late.{late}
use Rattle.work_file.specs.WorkFile.{work_in}
use Rattle.trace_commands.specs.declared.action.TraceAction.{TraceAction}
use Rattle.trace_commands.specs.declared.action.TraceAction.TheVariants.{JudgeBy, Chart}
use Rattle.command_line.specs.declared.form.Form.{Form}
use Rattle.command_line.specs.declared.form.Form.TheVariants as form
use Rattle.promises.specs.Headline.{bytes_of, SaysSet, IsAdmitted, trace_of, SaysTrace, IsSpread}

-- the call succeeded, with status 0, or memory ran out, with status 9
abbrev pub Succeeds : ℕ → Type 0
Succeeds ended = (ended ≡ 0) ⊎ (ended ≡ 9)

-- the bytes are a work file, of at most 2^24 bytes, and it says this work for the set
abbrev pub SaysWork : List ℕ → List Task → List WorkRow → Type 0
SaysWork bytes set work = (length bytes ≤ 2 ^ 24) × (work_in set bytes ≡ Ok work)

-- what `check` and `live` promise: they succeed for each set that the test admits
abbrev pub ServesAdmitted : List ℕ → ℕ → Type 0
ServesAdmitted bytes ended = (set : Set) (rule : Rule) → IsAdmitted bytes set rule → Succeeds ended

-- what `run` promises: it succeeds for each set that the test admits, with each valid work file
abbrev pub ServesWork : List ℕ → List ℕ → ℕ → Type 0
ServesWork bytes more ended = (set : Set) (rule : Rule) (work : List WorkRow)
    → IsAdmitted bytes set rule → SaysWork more set.tasks work → Succeeds ended

-- what `runall` promises: it succeeds for each set whose tasks first fit puts on processors 1 to m, with each
-- valid work file
abbrev pub ServesSpread : ℕ → List ℕ → List ℕ → ℕ → Type 0
ServesSpread m bytes more ended = (set : Set) (of : List ℕ) (work : List WorkRow)
    → IsSpread m bytes set of → SaysWork more set.tasks work → Succeeds ended

-- the trace is short enough for the command: for `chart` it has at most 2,000,000 ticks
abbrev pub IsShortEnough : TraceAction → List Row → Type 0
IsShortEnough Chart h = ticks h ≤ 2000000
IsShortEnough action h = Unit {0}

-- what `judge`, `chart`, `report` and `migrate` promise: they succeed for each set that the test admits, with
-- each trace file whose trace is legal under the test's rule and short enough
abbrev pub FindsEach : TraceAction → List ℕ → List ℕ → ℕ → Type 0
FindsEach action bytes more ended = (set : Set) (rule : Rule) (runs : List Run)
    → IsAdmitted bytes set rule → SaysTrace more set.tasks runs → Legal set.tasks rule (trace_of runs)
    → IsShortEnough action (trace_of runs) → Succeeds ended

-- what `judge` promises under a rule that the command line gives: it succeeds for each set, with each trace
-- file whose trace is legal under the rule and has no late jobs
abbrev pub FindsBy : Rule → List ℕ → List ℕ → ℕ → Type 0
FindsBy rule bytes more ended = (set : Set) (runs : List Run)
    → SaysSet bytes set → SaysTrace more set.tasks runs → Legal set.tasks rule (trace_of runs)
    → late set.tasks (trace_of runs) ≡ [] → Succeeds ended

-- what each command on a trace promises, under the rule that the command line gives or else the test's rule
abbrev pub FindsAll : TraceAction → List ℕ → List ℕ → ℕ → Type 0
FindsAll (JudgeBy p q) bytes more ended = FindsBy (Virtual p q) bytes more ended
FindsAll action bytes more ended = FindsEach action bytes more ended

-- which calls succeed, by the files and the status
abbrev pub Complete : Option Form → Files → ℕ → Type 0
Complete (Some (form.Check c)) files ended = ServesAdmitted (bytes_of files c.tasks) ended
Complete (Some (form.Run c)) files ended = ServesWork (bytes_of files c.tasks) (bytes_of files c.work) ended
Complete (Some (form.Live c)) files ended = ServesAdmitted (bytes_of files c.tasks) ended
Complete (Some (form.Soak c)) files ended = Succeeds ended
Complete (Some (form.RunAll c)) files ended =
    ServesSpread c.processors (bytes_of files c.tasks) (bytes_of files c.work) ended
Complete (Some (form.OnTrace c)) files ended =
    FindsAll c.action (bytes_of files c.tasks) (bytes_of files c.trace) ended
Complete form files ended = Unit {0}
