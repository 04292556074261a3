-- How many jobs of a task are pending. The newest row stands first.
use Rattle.std.specs.Prelude.{◌≡◌, ℕ, ◌+◌, ◌≤◌, List, [], ◌∷◌, cond, ◌==◌}
use Rattle.mc_task.specs.declared.task.Task.{Task}
use Rattle.mc_model.specs.Rows.{ticks, next_release}
use Rattle.mc_model.specs.Pending.{KeptRelease, pending}
use Rattle.mc_model.specs.declared.row.Row.{Row}

-- how many of these jobs are of task number k
abbrev pub pending_of : ℕ → List KeptRelease → ℕ
pending_of k [] = 0
pending_of k (i ∷ is) = cond (i.job.task.0 == k) 1 0 + pending_of k is

-- each task has at most one pending job
abbrev pub AtMostOne : List Task → List Row → Type 0
AtMostOne set h = (k : ℕ) → pending_of k (pending set h) ≤ 1

-- a task has no pending job at a boundary where its next job may be released: before its first release, or
-- once its period has passed since the last
abbrev pub NoneAtRelease : List Task → List Row → Type 0
NoneAtRelease set h = (k : ℕ) → next_release set h k ≤ ticks h → pending_of k (pending set h) ≡ 0
