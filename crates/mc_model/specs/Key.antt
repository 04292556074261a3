-- The key by which jobs are ordered, in units of 1/q tick (q = 1 under plain EDF): nothing is rounded.
use Rattle.std.specs.Prelude.{ℕ, ◌+◌, ◌*◌, Bool, List, Option, cond}
use Rattle.mc_task.specs.declared.task.Task.{Task}
use Rattle.mc_task.specs.declared.task.Rule.{Rule}
use Rattle.mc_task.specs.declared.task.Rule.TheVariants.{Plain, Virtual}
use Rattle.mc_task.specs.TaskSet.{task_at}
use Rattle.mc_model.specs.TaskNumbers.{period_in, is_high_in}
use Rattle.mc_model.specs.Pending.{KeptRelease}

-- how many units of a key make a tick
abbrev pub scale : Rule → ℕ
scale Plain = 1
scale (Virtual p q) = q

-- the distance from release to key in low mode: the period, scaled by p/q for a high task
abbrev pub low_offset : Rule → Option Task → ℕ
low_offset Plain t = period_in t
low_offset (Virtual p q) t = cond (is_high_in t) (p * period_in t) (q * period_in t)

-- the key of a job of this task that was released at r: its deadline in high mode, and its virtual deadline
-- in low mode
abbrev pub key_of : Rule → Bool → Option Task → ℕ → ℕ
key_of rule high t r = scale rule * r + cond high (scale rule * period_in t) (low_offset rule t)

-- the key of a released job, by its task and its release time
abbrev pub key : List Task → Rule → Bool → KeptRelease → ℕ
key set rule high i = key_of rule high (task_at set i.job.task.0) i.release
