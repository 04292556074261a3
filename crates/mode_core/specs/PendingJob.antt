-- What a caller sees of a task's pending job.
use Rattle.std.specs.Prelude.{ℕ, ◌+◌, Option, option_map}
use Rattle.mc_task.specs.TaskSet.{task_at}
use Rattle.mc_model.specs.TaskNumbers.{period_in}
use Rattle.mc_model.specs.Rows.{used}
use Rattle.mc_model.specs.Mode.{high_mode}
use Rattle.mc_model.specs.Pending.{KeptRelease, pending}
use Rattle.mc_model.specs.Key.{key_of}
use Rattle.mc_model.specs.Core.{State}
use Rattle.mode_core.specs.Entries.{job_of}
use Rattle.mode_core.specs.declared.answers.PendingJob.{PendingJob}

-- a pending job of task number k: its deadline lies a period after its release, it competes by its key in the
-- present mode, and it has had the ticks that the rows give it
abbrev pub seen_job : State → ℕ → KeptRelease → PendingJob
seen_job s k x = record {
  job = x.job;
  release = x.release;
  deadline = x.release + period_in (task_at s.set k);
  key = key_of s.rule (high_mode s.rule s.rows) (task_at s.set k) x.release;
  used = used s.rows x.job;
}

-- the pending job of task number k, if it has one
abbrev pub pending_job : State → ℕ → Option PendingJob
pending_job s k = option_map (seen_job s k) (job_of k (pending s.set s.rows))
