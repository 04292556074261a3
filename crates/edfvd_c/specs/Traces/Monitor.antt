-- What a monitor in C is, and what is observed through it. The newest row stands first.
use Rattle.std.specs.Prelude.{◌≡◌, ◌≢◌, ◌<◌, ◌+◌, ◌^◌, ◌⊎◌, ◌↔◌, ⊤, ℕ, ◌==◌, true, List, [], ◌++◌, length, take, drop, map, cond, if◌then◌else◌, Option, Some, None, option_and_then, MatchOption}
use Rattle.mc_model.specs.declared.row.Row.{Row}
use Rattle.mc_model.specs.declared.row.Row.TheVariants.{Release, Tick, Idle}
use Rattle.mc_model.specs.declared.run.Run.{Run}
use Rattle.mc_model.specs.declared.run.Run.TheVariants as run
use Rattle.mc_model.specs.Mode.{high_mode}
use Rattle.mc_model.specs.Pending.{pending}
use Rattle.mc_model.specs.Rows.{ticks}
use Rattle.mc_model.specs.Runs.{size, rows_of, IsRun, IsRunOfSet}
use Rattle.mc_model.specs.Verdict.{verdict}
use Rattle.trace_judge.specs.declared.monitor.ObserveFault.{ObserveFault}
use Rattle.trace_judge.specs.declared.monitor.ObserveFault.TheVariants as faults
use Rattle.trace_judge.specs.declared.unfit.Unfit.{Unfit}
use Rattle.trace_judge.specs.declared.turned.Turned.{Turned}
use Rattle.trace_judge.specs.Turned.{AreTurned, IsInOrder, AddLate}
use Rattle.trace_judge.specs.Watched.{Watched, Watches, NeedsMemory, unfit_in, fitted, seen, fits_so_far}
use Rattle.edfvd_c.specs.declared.sets.given.CTask.{CTask}
use Rattle.edfvd_c.specs.declared.handle.held.Held.{Held}
use Rattle.edfvd_c.specs.declared.handle.held.Held.TheVariants as held
use Rattle.edfvd_c.specs.declared.traces.judged.CVerdict.{CVerdict}
use Rattle.edfvd_c.specs.declared.row.CRow.{CRow}
use Rattle.edfvd_c.specs.declared.traces.monitor.CUnfit.{CUnfit}
use Rattle.edfvd_c.specs.declared.traces.monitor.CWatch.{CWatch}
use Rattle.edfvd_c.specs.declared.traces.monitor.CLate.{CLate}
use Rattle.edfvd_c.specs.Row.{row_in}
use Rattle.edfvd_c.specs.Traces.Judged.{judged, why_number, AreUnderRule}
use Rattle.edfvd_c.specs.Status.{OK, MEMORY, NO_TASK, CLOSED, FULL, ARGUMENT, SHORT_BUFFER}

-- an opened monitor: its tasks have the given numbers, the rule is as for the judge, and it has seen no row
abbrev pub IsMonitorOpening : List CTask → ℕ → ℕ → Held → Type 0
IsMonitorOpening given p q made =
    (w : Watched) × (made ≡ held.Monitor w) × AreUnderRule given p q w.set.tasks w.rule × Watches [] w

-- n rows equal to this one as a run, if they are one; a release is a run alone
abbrev pub run_of : ℕ → Row → Option Run
run_of n (Release j kept) = if n == 1 then Some (run.Release j kept) else None
run_of n (Tick j how) = Some (run.Ticks j how n)
run_of n Idle = Some (run.Idles n)

-- the run that the numbers stand for
abbrev pub run_in : CRow → ℕ → Option Run
run_in row n = option_and_then (run_of n) (row_in row)

-- the first row so far that does not fit; zeros if each fits
abbrev pub unfit_row : Option Unfit → CUnfit
unfit_row None = record { why = 0; place = 0 }
unfit_row (Some u) = record { why = why_number u.why; place = u.place }

-- the monitor has seen the run after all rows before, and this is what it found
pub record Takes (run : Run) (before after : Watched) (unfit : CUnfit) : Type 0 where
  pub set : after.set ≡ before.set
  pub rule : after.rule ≡ before.rule
  pub rows : (h : List Row) → Watches h before → Watches (rows_of run ++ h) after
  pub found : (h : List Row) → Watches h before
      → unfit ≡ unfit_row (unfit_in before.set.tasks before.rule (rows_of run ++ h))

-- the status of a fault of a run
abbrev pub fault_status : ObserveFault → ℕ
fault_status faults.Memory = MEMORY
fault_status faults.UnknownTask = NO_TASK
fault_status faults.Full = FULL
fault_status faults.NotARun = ARGUMENT

-- which status a monitor has for a run, if the numbers stand for one: each of NO_TASK, ARGUMENT and FULL exactly for its cause
pub record HasReason (given : Option Run) (w : Watched) (status : ℕ) : Type 0 where
  -- the run is of a task that the set does not have
  pub no_task : (status ≡ NO_TASK) ↔ MatchOption given ⊥ (λ run. ¬ IsRunOfSet w.set.tasks run)
  -- the numbers stand for no run, or for one of the set that is not valid
  pub no_run : (status ≡ ARGUMENT) ↔ MatchOption given ⊤ (λ run. IsRunOfSet w.set.tasks run × (¬ IsRun run))
  -- with the rows of the run there would be more than 2^62
  pub full : (status ≡ FULL) ↔ MatchOption given ⊥ (λ run. IsRunOfSet w.set.tasks run × IsRun run × (2 ^ 62 < seen w + size run))
  -- only these statuses are returned
  pub only : (status ≡ OK) ⊎ (status ≡ MEMORY) ⊎ (status ≡ NO_TASK) ⊎ (status ≡ FULL) ⊎ (status ≡ ARGUMENT)

-- what an open monitor does with n equal rows
pub record Observed (row : CRow) (n : ℕ) (before : Watched) (new : Option Watched) (status : ℕ)
    (found : CUnfit) : Type 0 where
  -- with OK the monitor has seen the run that the numbers stand for
  pub taken : status ≡ OK → (run : Run) × (after : Watched)
      × (run_in row n ≡ Some run) × (new ≡ Some after) × Takes run before after found
  -- with any other status the monitor is as it was before, and zeros are stored
  pub refused : status ≢ OK → (new ≡ Some before) × (found ≡ unfit_row None)
  pub reason : HasReason (run_in row n) before status
  -- with MEMORY the row is a kept release of a task that has at least two pending jobs
  pub memory : status ≡ MEMORY → MatchOption (run_in row n) ⊥
      (λ run. (h : List Row) → Watches h before → NeedsMemory before.set.tasks h run)

-- what is observed through a monitor: with a closed one the status is CLOSED and it stays closed
abbrev pub Observes : CRow → ℕ → Option Watched → Option Watched → ℕ → CUnfit → Type 0
Observes row n old new status found =
    MatchOption old ((new ≡ None) × (status ≡ CLOSED) × (found ≡ unfit_row None))
    (λ before. Observed row n before new status found)

-- what an open monitor would find if n equal rows came next
pub record WouldFind (row : CRow) (n : ℕ) (w : Watched) (status : ℕ) (unfit : CUnfit) : Type 0 where
  pub found : status ≡ OK → (run : Run) × (run_in row n ≡ Some run) × ((h : List Row) → Watches h w
      → unfit ≡ unfit_row (unfit_in w.set.tasks w.rule (rows_of run ++ h)))
  pub refused : status ≢ OK → unfit ≡ unfit_row None
  pub reason : HasReason (run_in row n) w status
  pub memory : status ≢ MEMORY

-- a job that turned late, in numbers
abbrev pub late_job : Turned → CLate
late_job t = record { task = t.job.task.0; count = t.job.count; deadline = t.deadline }

-- these are the jobs that turned late after this many ticks of the rows that fitted, in the order of their deadlines; if one
-- run came since then, it added exactly these to the late jobs
pub record TurnedLate (w : Watched) (since : ℕ) (ts : List Turned) : Type 0 where
  pub jobs : (h : List Row) → Watches h w → AreTurned w.set.tasks (fitted w.set.tasks w.rule h) since ts
  pub order : IsInOrder ts
  pub late : (h : List Row) (run : Run) → Watches (rows_of run ++ h) w → fits_so_far w ≡ true
      → IsRun run → since ≡ ticks h → AddLate w.set.tasks run h ts

-- what is stored of the jobs that turned late
pub record StoresLate (w : Watched) (since status many : ℕ) (old new : List CLate) : Type 0 where
  -- with OK the array begins with the jobs that turned late, its rest is as it was, and their number is returned
  pub stored : status ≡ OK → (ts : List Turned)
      × TurnedLate w since ts × (many ≡ length ts) × (take many new ≡ map late_job ts)
  pub rest : status ≡ OK → drop many new ≡ drop many old
  -- with SHORT_BUFFER the number of jobs that turned late is returned, and the array has fewer elements
  pub short : status ≡ SHORT_BUFFER → (ts : List Turned)
      × TurnedLate w since ts × (many ≡ length ts) × (length old < many)
  pub untouched : status ≢ OK → new ≡ old
  pub memory : status ≡ MEMORY → many ≡ 0
  -- only these statuses are returned
  pub only : (status ≡ OK) ⊎ (status ≡ MEMORY) ⊎ (status ≡ SHORT_BUFFER)

-- the numbers are the verdict on the rows that the monitor has seen
abbrev pub IsVerdict : Watched → CVerdict → Type 0
IsVerdict w found = (h : List Row) → Watches h w → found ≡ judged (verdict w.set.tasks w.rule h)

-- whether each row has fitted, and how many rows have; and the clock, the mode and the number of pending jobs after these
pub record IsWatch (w : Watched) (found : CWatch) : Type 0 where
  pub legal : found.legal ≡ cond (fits_so_far w) 1 0
  pub rows : (h : List Row) → Watches h w → found.rows ≡ length (fitted w.set.tasks w.rule h)
  pub ticks : (h : List Row) → Watches h w → found.ticks ≡ ticks (fitted w.set.tasks w.rule h)
  pub mode : (h : List Row) → Watches h w → found.high_mode ≡ cond (high_mode w.rule (fitted w.set.tasks w.rule h)) 1 0
  pub pending : (h : List Row) → Watches h w
      → found.pending ≡ length (pending w.set.tasks (fitted w.set.tasks w.rule h))

-- what is stored of a closed monitor
abbrev pub no_verdict : CVerdict
no_verdict = record { why = 0; task = 0; count = 0; late = 0; place = 0 }

-- what is read of a closed monitor
abbrev pub no_watch : CWatch
no_watch = record { rows = 0; ticks = 0; pending = 0; legal = 0; high_mode = 0 }
