-- The release times of the pending jobs.
use Rattle.std.specs.Prelude.{◌≡◌, ℕ, false, Option}
use Rattle.mc_task.specs.declared.task.JobId.{JobId}
use Rattle.mc_task.specs.declared.task.Level.{Level}
use Rattle.mc_task.specs.declared.task.Level.TheVariants.{Low, High}
use Rattle.mc_model.specs.Rows.{same_job}
use Rattle.sched_report.specs.declared.pending_releases.PendingReleases.{PendingReleases}
use Rattle.sched_report.specs.ReleaseTimes.{stored}

-- the release time that is stored for a job of this level
abbrev pub release_in : PendingReleases → Level → JobId → Option ℕ
release_in w Low j = stored w.low j
release_in w High j = stored w.high j

-- for this job the given release time is stored, and for each other job what was stored before
pub record ChangesOnly (old new : PendingReleases) (level : Level) (job : JobId) (release : Option ℕ) : Type 0 where
  pub here : release_in new level job ≡ release
  pub others : (l : Level) (j : JobId) → same_job job j ≡ false → release_in new l j ≡ release_in old l j
