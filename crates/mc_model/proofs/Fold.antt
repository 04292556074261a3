-- The pending jobs, and legal traces, computed row by row; Bridge shows that they are those of the model.
use Rattle.std.proofs.Common.{◌≡◌, Bool, not, ◌&&◌, ◌||◌, List, [], ◌∷◌, Option, None, cond, filter}
use Rattle.mc_task.specs.declared.task.Rule.{Rule}
use Rattle.mc_task.specs.declared.task.Task.{Task}
use Rattle.mc_task.specs.declared.task.JobId.{JobId}
use Rattle.mc_task.specs.TaskSet.{task_at}
use Rattle.mc_model.specs.declared.row.How.{How}
use Rattle.mc_model.specs.declared.row.Row.{Row}
use Rattle.mc_model.specs.declared.row.Row.TheVariants.{Release, Tick, Idle}
use Rattle.mc_model.specs.declared.verdict.Why.{Why}
use Rattle.mc_model.specs.TaskNumbers.{is_high_in}
use Rattle.mc_model.specs.Pending.{KeptRelease, is_end}
use Rattle.mc_model.specs.Rows.{same_job, ticks}
use Rattle.mc_model.specs.Mode.{is_over}
use Rattle.mc_model.specs.Legal.{fault_among, IsOfSet}

-- what a tick with this outcome leaves pending: an end takes its job out, an overrun the low jobs
abbrev pub stays : List Task → JobId → How → KeptRelease → Bool
stays set j how i = not (is_end how && same_job j i.job) && (not (is_over how) || is_high_in (task_at set i.job.task.0))

-- the pending jobs: a kept release adds its job, a tick leaves those that stay, an idle tick all
abbrev pub pending : List Task → List Row → List KeptRelease
pending set [] = []
pending set (Release j kept ∷ g) = cond kept (record { job = j; release = ticks g } ∷ pending set g) (pending set g)
pending set (Tick j how ∷ g) = filter (stays set j how) (pending set g)
pending set (Idle ∷ g) = pending set g

-- why a row does not fit, by the pending jobs computed row by row
abbrev pub fault : List Task → Rule → Row → List Row → Option Why
fault set rule row g = fault_among set rule (pending set g) row g

-- each row is of the set and fits, by the pending jobs computed row by row
abbrev pub Legal : List Task → Rule → List Row → Type 0
Legal set rule [] = Unit {0}
Legal set rule (row ∷ g) = IsOfSet set row × (fault set rule row g ≡ None) × Legal set rule g
