-- The pending job of each task: a task has at most one, so one slot for each task is enough.
use Rattle.std.specs.Prelude.{◌≡◌, ◌≢◌, ℕ, ◌+◌, ◌-◌, Bool, true, false, not, ◌&&◌, ◌||◌, ◌==◌, cond, List, length, replicate, slice_index, slice_index_or, Option, Some, None, option_map}
use Rattle.mc_task.specs.declared.task.Task.{Task}
use Rattle.mc_task.specs.declared.task.Rule.{Rule}
use Rattle.mc_task.specs.declared.task.JobId.{JobId}
use Rattle.mc_task.specs.TaskSet.{task_at, IsIn}
use Rattle.mc_model.specs.declared.row.Row.{Row}
use Rattle.mc_model.specs.declared.row.How.{How}
use Rattle.mc_model.specs.TaskNumbers.{is_high_in}
use Rattle.mc_model.specs.Rows.{used}
use Rattle.mc_model.specs.Mode.{high_mode, is_over}
use Rattle.mc_model.specs.Pending.{is_end}
use Rattle.mc_model.specs.Core.{runs_before, outcome_of}
use Rattle.mode_core.specs.declared.pending.Pending.{Pending}
use Rattle.mode_core.specs.declared.pending_jobs.ReleasedJob.{ReleasedJob}
use Rattle.mode_core.specs.Entries.{kept_release_of}

-- the set and the rule, whether the mode is high, and task by task the pending job, the ticks that are counted,
-- and the number of the job that the latest overrun discarded
pub record Slots : Type 0 where
  pub set : List Task
  pub rule : Rule
  pub high : Bool
  pub jobs : List (Option ReleasedJob)
  pub ticks : List ℕ
  pub discarded : List (Option ℕ)

-- the pending job of task number k
abbrev pub job_at : List (Option ReleasedJob) → ℕ → Option ReleasedJob
job_at jobs k = slice_index_or jobs (k - 1) None

-- the ticks that are counted for task number k
abbrev pub ticks_at : Slots → ℕ → ℕ
ticks_at s k = slice_index s.ticks (k - 1)

-- a job of task number k that has used n ticks
abbrev pub as_pending : ℕ → ℕ → ReleasedJob → Pending
as_pending k n j =
    record { job = record { task = record { 0 = k }; count = j.count }; release = j.release; used = n }

-- the pending job of task number k, with its ticks
abbrev pub waiting : Slots → ℕ → Option Pending
waiting s k = option_map (as_pending k (ticks_at s k)) (job_at s.jobs k)

-- no pending job of any task, in low mode
abbrev pub free_slots : List Task → Rule → Slots
free_slots set rule = record {
  set = set;
  rule = rule;
  high = false;
  jobs = replicate (length set) None;
  ticks = replicate (length set) 0;
  discarded = replicate (length set) None;
}

-- the number that stands for task number k
abbrev pub number_at : List (Option ℕ) → ℕ → Option ℕ
number_at numbers k = slice_index_or numbers (k - 1) None

-- the number of the job of task number k, if the task is a low one
abbrev pub if_low : List Task → ℕ → Option ReleasedJob → Option ℕ
if_low set k job = cond (is_high_in (task_at set k)) None (option_map (λ j. j.count) job)

-- the job of task number k that the latest overrun discarded
abbrev pub discarded_at : Slots → ℕ → Option JobId
discarded_at s k = option_map (λ n. record { task = record { 0 = k }; count = n }) (number_at s.discarded k)

-- the job of task number k that an overrun would discard now: the pending job of a low task
abbrev pub discards_now : Slots → ℕ → Option JobId
discards_now s k = cond (is_high_in (task_at s.set k)) None (option_map (λ p. p.job) (waiting s k))

-- task number k has this pending job now, and nothing else changed
pub record ChangesOnly (old new : Slots) (k : ℕ) (entry : Option Pending) : Type 0 where
  pub same_set : new.set ≡ old.set
  pub same_rule : new.rule ≡ old.rule
  pub same_mode : new.high ≡ old.high
  pub this_task : waiting new k ≡ entry
  pub other_tasks : (i : ℕ) → IsIn old.set i → i ≢ k → waiting new i ≡ waiting old i

-- the job has had one more tick
abbrev pub one_more : Pending → Pending
one_more p = record p { used = p.used + 1 }

-- the job has had n more ticks
abbrev pub more_by : ℕ → Pending → Pending
more_by n p = record p { used = p.used + n }

-- an overrun from these slots notes the jobs that it discards, and another outcome of a tick notes none
abbrev pub NotesDiscarded : Slots → Slots → Bool → Type 0
NotesDiscarded old new over = (k : ℕ) → IsIn old.set k
    → discarded_at new k ≡ cond over (discards_now old k) (discarded_at old k)

-- the mode is high, no low task has a pending job, and nothing else changed
pub record GoesHigh (old new : Slots) : Type 0 where
  pub same_set : new.set ≡ old.set
  pub same_rule : new.rule ≡ old.rule
  pub mode : new.high ≡ true
  pub each_task : (i : ℕ) → IsIn old.set i
      → waiting new i ≡ cond (is_high_in (task_at old.set i)) (waiting old i) None

-- a tick of task number k with this outcome leaves the pending job of task number i: an end clears the task's
-- own slot, and an overrun clears the slots of the low tasks
abbrev pub is_left : List Task → ℕ → How → ℕ → Bool
is_left set k how i = not (is_end how && (k == i)) && (not (is_over how) || is_high_in (task_at set i))

-- new is what a tick of task number k with this outcome leaves of old
pub record IsLeft (old new : Slots) (k : ℕ) (how : How) : Type 0 where
  pub same_set : new.set ≡ old.set
  pub same_rule : new.rule ≡ old.rule
  pub mode : new.high ≡ (is_over how || old.high)
  pub each_task : (i : ℕ) → IsIn old.set i
      → waiting new i ≡ cond (is_left old.set k how i) (waiting old i) None

-- the outcome of the job's next tick, after any rows in this mode in which the job has had these ticks
abbrev pub IsOutcome : Slots → JobId → Bool → How → Type 0
IsOutcome s j done how = (g : List Row) → high_mode s.rule g ≡ s.high → used g j ≡ ticks_at s j.task.0
    → how ≡ outcome_of s.set s.rule g j done

-- no task has a pending job
abbrev pub IsQuiet : Slots → Type 0
IsQuiet s = (k : ℕ) → IsIn s.set k → waiting s k ≡ None

-- the job is the pending job of its task, and no pending job runs before it
pub record RunsFirst (s : Slots) (p : Pending) : Type 0 where
  pub inside : IsIn s.set p.job.task.0
  pub there : waiting s p.job.task.0 ≡ Some p
  pub others : (k : ℕ) (q : Pending) → IsIn s.set k → waiting s k ≡ Some q
      → runs_before s.set s.rule s.high (kept_release_of q) (kept_release_of p) ≡ false
