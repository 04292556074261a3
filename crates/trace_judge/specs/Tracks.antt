-- What is kept of the rows so far, against the definitions over whole lists. The newest row stands first.
use Rattle.std.specs.Prelude.{◌≡◌, ℕ, ◌+◌, ◌<◌, List, ◌++◌, replicate, Option, Some, None, length, slice_get}
use Rattle.mc_task.specs.declared.task.Rule.{Rule}
use Rattle.mc_task.specs.declared.task.Task.{Task}
use Rattle.mc_model.specs.declared.row.Row.{Row}
use Rattle.mc_model.specs.declared.run.Run.{Run}
use Rattle.mc_model.specs.Rows.{ticks, used, releases, next_release}
use Rattle.mc_model.specs.Mode.{high_mode}
use Rattle.mc_model.specs.Key.{key}
use Rattle.mc_model.specs.Legal.{Legal, fault}
use Rattle.mc_model.specs.Runs.{row_of, size, rows_of}
use Rattle.trace_judge.specs.declared.step.Misfit.{Misfit}
use Rattle.trace_judge.specs.declared.late_jobs.LateJob.{LateJob}
use Rattle.trace_judge.specs.declared.state.State.{State}
use Rattle.mc_model.specs.Sums.{total}
use Rattle.trace_judge.specs.Placed.{Placed, waiting, gone_late}
use Rattle.trace_judge.specs.LateJobs.{CountsLateJobs}
use Rattle.trace_judge.specs.Entries.{Entry, HasQueues}

-- the entry of a pending job after these rows
abbrev pub entry_of : List Task → Rule → List Row → Placed → Entry
entry_of set rule g x = (
  record { key = key set rule (high_mode rule g) x.kept; job = x.kept.job },
  record { release = x.kept.release; used = used g x.kept.job; rows_before = x.rows_before },
)

-- the kept release as a late job
abbrev pub late_job_in : Placed → LateJob
late_job_in x = record { rows_before = x.rows_before; job = x.kept.job }

-- the state agrees with the definitions on these rows
pub record Tracks (set : List Task) (rule : Rule) (g : List Row) (s : State) : Type 0 where
  pub ticks : s.ticks ≡ ticks g
  pub rows : s.rows ≡ length g
  pub mode : s.high_mode ≡ high_mode rule g
  pub count : length s.tasks.items ≡ length set
  pub tasks : (k : ℕ) → k < length set
      → slice_get s.tasks.items k ≡ Some (record { releases = releases g (k + 1); next = next_release set g (k + 1) })
  pub queues : HasQueues s.waiting set
  pub waiting : (f : Entry → ℕ)
      → total f s.waiting.entries ≡ total (λ x. f (entry_of set rule g x)) (waiting set g)
  pub late_jobs : CountsLateJobs s.late_jobs (λ f. total (λ x. f (late_job_in x)) (gone_late set g))

-- the misfit is the first row of the run that does not fit, and the part of it that fails
pub record StopsAt (set : List Task) (rule : Rule) (run : Run) (g : List Row) (misfit : Misfit) : Type 0 where
  pub inside : misfit.after < size run
  pub before : Legal set rule (replicate misfit.after (row_of run) ++ g)
  pub there : fault set rule (row_of run) (replicate misfit.after (row_of run) ++ g) ≡ Some misfit.why

-- after legal rows that are tracked: each row of the run fits and is tracked; or this is the first row that does not fit,
-- and the rows of the run before it are tracked
abbrev pub IsStep : List Task → Rule → Run → State → Option Misfit → State → Type 0
IsStep set rule run old None new = (g : List Row) → Legal set rule g → Tracks set rule g old
    → Legal set rule (rows_of run ++ g) × Tracks set rule (rows_of run ++ g) new
IsStep set rule run old (Some misfit) new =
    (g : List Row) → Legal set rule g → Tracks set rule g old
    → StopsAt set rule run g misfit × Tracks set rule (replicate misfit.after (row_of run) ++ g) new

-- after legal rows that are tracked: each row of the run fits, or this is the first row that does not fit
abbrev pub Looks : List Task → Rule → Run → State → Option Misfit → Type 0
Looks set rule run s None =
    (g : List Row) → Legal set rule g → Tracks set rule g s → Legal set rule (rows_of run ++ g)
Looks set rule run s (Some misfit) =
    (g : List Row) → Legal set rule g → Tracks set rule g s → StopsAt set rule run g misfit
