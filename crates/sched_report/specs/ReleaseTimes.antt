-- The release times of the pending jobs of one level.
use Rattle.std.specs.Prelude.{◌≡◌, ℕ, ◌==◌, true, false, cond, Option, Some, None, slice_get}
use Rattle.std.specs.BTreeMap.{get}
use Rattle.std.specs.Ordering.{nat_cmp, ordering_then}
use Rattle.std.specs.declared.cmp.Ordering.{Ordering}
use Rattle.mc_task.specs.declared.task.JobId.{JobId}
use Rattle.mc_model.specs.Rows.{same_job}
use Rattle.sched_report.specs.declared.release_times.Recent.{Recent}
use Rattle.sched_report.specs.declared.release_times.ReleaseTimes.{ReleaseTimes}

-- the order of keys: by the task's number, then by the job's number
abbrev pub key_cmp : ℕ × ℕ → ℕ × ℕ → Ordering
key_cmp x y = ordering_then (nat_cmp x.0 y.0) (nat_cmp x.1 y.1)

-- the release time that the map holds for a job
abbrev pub older : ReleaseTimes → JobId → Option ℕ
older r j = get key_cmp r.older (j.task.0, j.count)

-- the release time of a task's job with this number: the one in the task's slot if that job stands there, or else the
-- older one
abbrev pub recent_or : Option (Option Recent) → ℕ → Option ℕ → Option ℕ
recent_or (Some (Some recent)) count older = cond (recent.count == count) (Some recent.release) older
recent_or (Some None) count older = older
recent_or None count older = older

-- the release time that is stored for a job
abbrev pub stored : ReleaseTimes → JobId → Option ℕ
stored r j = recent_or (slice_get r.recent.items j.task.0) j.count (older r j)

-- for this job the given release time is stored, and for each other job what was stored before
pub record StoresOnly (old new : ReleaseTimes) (job : JobId) (release : Option ℕ) : Type 0 where
  pub here : stored new job ≡ release
  pub others : (j : JobId) → same_job job j ≡ false → stored new j ≡ stored old j

-- for each other job of the task the map holds what the task's slot and the map held before, and for each job of
-- another task what the map held before
pub record SetsAside (job : JobId) (slot : Option Recent) (old new : JobId → Option ℕ) : Type 0 where
  pub same_task : (j : JobId) → same_job job j ≡ false → (job.task.0 == j.task.0) ≡ true
      → new j ≡ recent_or (Some slot) j.count (old j)
  pub other_tasks : (j : JobId) → (job.task.0 == j.task.0) ≡ false → new j ≡ old j
