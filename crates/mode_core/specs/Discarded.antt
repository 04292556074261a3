-- The jobs that an overrun discards: the pending jobs of low tasks.
use Rattle.std.specs.Prelude.{ℕ, List, [], ◌∷◌, Option, None, option_map, cond}
use Rattle.mc_task.specs.declared.task.Task.{Task}
use Rattle.mc_task.specs.declared.task.JobId.{JobId}
use Rattle.mc_task.specs.TaskSet.{task_at}
use Rattle.mc_model.specs.declared.row.How.TheVariants.{Over}
use Rattle.mc_model.specs.declared.row.Row.{Row}
use Rattle.mc_model.specs.declared.row.Row.TheVariants.{Tick}
use Rattle.mc_model.specs.TaskNumbers.{is_high_in}
use Rattle.mc_model.specs.Pending.{pending}
use Rattle.mode_core.specs.Entries.{job_of}

-- the job of task number k that an overrun after these rows discards: the pending job of a low task
abbrev pub discards : List Task → List Row → ℕ → Option JobId
discards set g k = cond (is_high_in (task_at set k)) None (option_map (λ x. x.job) (job_of k (pending set g)))

-- the job of task number k that the latest overrun in these rows discarded, if it discarded one
abbrev pub discarded : List Task → List Row → ℕ → Option JobId
discarded set [] k = None
discarded set (Tick j Over ∷ g) k = discards set g k
discarded set (row ∷ g) k = discarded set g k
