-- What an overrun does to what is kept: the low jobs go, and the high ones get their keys of high mode.
use Rattle.std.specs.Prelude.{◌≡◌, ℕ, Bool, true, not, ◌&&◌, ◌==◌, List, [], ◌∷◌, Option, Some, None, cond}
use Rattle.mc_task.specs.declared.task.JobId.{JobId}
use Rattle.mc_task.specs.declared.task.Rule.{Rule}
use Rattle.mc_task.specs.declared.task.Task.{Task}
use Rattle.mc_task.specs.TaskSet.{task_at}
use Rattle.mc_model.specs.TaskNumbers.{is_high_in}
use Rattle.mc_model.specs.Key.{key_of}
use Rattle.trace_judge.specs.declared.pending_queues.Pending.{Pending}
use Rattle.trace_judge.specs.declared.pending_queues.Rank.{Rank}
use Rattle.trace_judge.specs.declared.late_jobs.LateJobs.{LateJobs}
use Rattle.trace_judge.specs.declared.state.State.{State}
use Rattle.trace_judge.specs.LateJobs.{noted}
use Rattle.mc_model.specs.Sums.{total}
use Rattle.trace_judge.specs.Firsts.{change_first}
use Rattle.trace_judge.specs.Entries.{Entry, is_of, spent_entry, late_job_of}
use Rattle.trace_judge.specs.Rules.{is_due_at}
use Rattle.trace_judge.specs.Steps.{Moves}

-- the deadline of the entry's job has come at boundary now
abbrev pub is_due_entry : List Task → ℕ → Entry → Bool
is_due_entry set now e = is_due_at (task_at set e.0.job.task.0) e.1.release now

-- the entry is of a low task, whose jobs an overrun discards, and the job's deadline has come
abbrev pub is_discarded_late : List Task → ℕ → Entry → Bool
is_discarded_late set now e = not (is_high_in (task_at set e.0.job.task.0)) && is_due_entry set now e

-- the entry's job is one of those that count, all of them or those of low tasks alone, and its deadline has come
abbrev pub is_due_among : Bool → List Task → ℕ → Entry → Bool
is_due_among low_alone set now e =
    not (low_alone && is_high_in (task_at set e.0.job.task.0)) && is_due_entry set now e

-- the late jobs, to which each entry that passes the test is added, one after the other
abbrev pub noted_each : (Entry → Bool) → LateJobs → List Entry → LateJobs
noted_each p s [] = s
noted_each p s (e ∷ es) = noted_each p (cond (p e) (noted s (late_job_of e)) s) es

-- the entry has the key that its task and its release give it in this mode
abbrev pub is_keyed : List Task → Rule → Bool → Entry → Bool
is_keyed set rule high e = e.0.key == key_of rule high (task_at set e.0.job.task.0) e.1.release

-- the rank of a job of the task in high mode
abbrev pub rekeyed : Rule → Option Task → Rank → Pending → Rank
rekeyed rule None rank p = rank
rekeyed rule (Some t) rank p = record { key = key_of rule true (Some t) p.release; job = rank.job }

-- the weight of an entry of a high job at its new rank; an entry of a low job weighs nothing
abbrev pub moved : List Task → Rule → (Entry → ℕ) → Entry → ℕ
moved set rule f e =
    cond (is_high_in (task_at set e.0.job.task.0)) (f (rekeyed rule (task_at set e.0.job.task.0) e.0 e.1, e.1)) 0

-- the new entries are those of the high jobs, at their new ranks
abbrev pub Switches : List Task → Rule → List Entry → List Entry → Type 0
Switches set rule old new = (f : Entry → ℕ) → total f new ≡ total (moved set rule f) old

-- an overrun of the job
pub record Overruns (set : List Task) (rule : Rule) (j : JobId) (old new : State) : Type 0 where
  pub moves : Moves 1 old new
  pub mode : new.high_mode ≡ true
  pub switched : List Entry
  pub switches : Switches set rule old.waiting.entries switched
  pub waiting : new.waiting.entries ≡ change_first (is_of j) (spent_entry 1) switched
  pub late_jobs : new.late_jobs ≡ noted_each (is_discarded_late set old.ticks) old.late_jobs old.waiting.entries
