-- The pending jobs: released and kept, not ended, not discarded by an overrun. The newest row stands first.
use Rattle.std.specs.Prelude.{ℕ, Bool, true, false, not, ◌&&◌, ◌||◌, List, [], ◌∷◌, cond, filter}
use Rattle.std.specs.List.{list_any}
use Rattle.mc_task.specs.declared.task.Task.{Task}
use Rattle.mc_task.specs.declared.task.JobId.{JobId}
use Rattle.mc_task.specs.TaskSet.{task_at}
use Rattle.mc_model.specs.TaskNumbers.{is_high_in}
use Rattle.mc_model.specs.Rows.{same_job, ticks}
use Rattle.mc_model.specs.Mode.{is_over}
use Rattle.mc_model.specs.declared.row.How.{How}
use Rattle.mc_model.specs.declared.row.How.TheVariants.{Done, Stop}
use Rattle.mc_model.specs.declared.row.Row.{Row}
use Rattle.mc_model.specs.declared.row.Row.TheVariants.{Release, Tick, Idle}

-- a kept release: the job and its release time
pub record KeptRelease : Type 0 where
  pub job : JobId
  pub release : ℕ

-- the kept releases, newest first
abbrev pub released : List Row → List KeptRelease
released [] = []
released (Release j kept ∷ g) = cond kept (record { job = j; release = ticks g } ∷ released g) (released g)
released (_ ∷ g) = released g

-- whether the tick is its job's last
abbrev pub is_end : How → Bool
is_end Done = true
is_end Stop = true
is_end _ = false

-- whether the row is a Done or Stop row of the job
abbrev pub ends : JobId → Row → Bool
ends j (Tick i how) = is_end how && same_job i j
ends j _ = false

-- whether the job has a Done or Stop row
abbrev pub ended : List Row → JobId → Bool
ended h j = list_any (ends j) h

-- whether an Over row stands after the job's Release row
abbrev pub over_since : List Row → JobId → Bool
over_since [] j = false
over_since (Release i kept ∷ g) j = not (same_job i j) && over_since g j
over_since (Tick i how ∷ g) j = is_over how || over_since g j
over_since (Idle ∷ g) j = over_since g j

-- whether the job has not ended, and is of a high task or has seen no overrun since its release
abbrev pub is_still_pending : List Task → List Row → KeptRelease → Bool
is_still_pending set h i =
    not (ended h i.job) && (is_high_in (task_at set i.job.task.0) || not (over_since h i.job))

-- the pending jobs, newest release first
abbrev pub pending : List Task → List Row → List KeptRelease
pending set h = filter (is_still_pending set h) (released h)
