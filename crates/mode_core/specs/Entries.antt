-- A pending job, as callers see it, and as it is queued.
use Rattle.std.specs.Prelude.{ℕ, Bool, true, List, Option, find, ◌==◌}
use Rattle.mc_task.specs.declared.task.Task.{Task}
use Rattle.mc_task.specs.declared.task.Rule.{Rule}
use Rattle.mc_task.specs.TaskSet.{task_at}
use Rattle.mc_model.specs.declared.row.Row.{Row}
use Rattle.mc_model.specs.TaskNumbers.{is_high_in}
use Rattle.mc_model.specs.Pending.{KeptRelease}
use Rattle.mc_model.specs.Rows.{used}
use Rattle.mc_model.specs.Key.{key_of}
use Rattle.ready_queue.specs.declared.item.Item.{Item}
use Rattle.mode_core.specs.declared.pending.Pending.{Pending}

-- the job with the ticks that it had in these rows
abbrev pub entry : List Row → KeptRelease → Pending
entry h x = record { job = x.job; release = x.release; used = used h x.job }

-- the pending job of task number k
abbrev pub job_of : ℕ → List KeptRelease → Option KeptRelease
job_of k jobs = find (λ i. i.job.task.0 == k) jobs

-- the job with its release time alone
abbrev pub kept_release_of : Pending → KeptRelease
kept_release_of p = record { job = p.job; release = p.release }

-- what the queue stores of a job of task number k that was released at r: its key in this mode, and its key
-- in high mode
abbrev pub item : List Task → Rule → Bool → ℕ → ℕ → Item
item set rule high k r = record {
  task = record { 0 = k };
  high = is_high_in (task_at set k);
  key = key_of rule high (task_at set k) r;
  real = key_of rule true (task_at set k) r;
}
