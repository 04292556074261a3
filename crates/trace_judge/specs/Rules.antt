-- What the rules allow at a tick, and when a deadline has come.
use Rattle.std.specs.Prelude.{ℕ, ◌+◌, ◌-◌, Bool, not, ◌&&◌, ◌||◌, ◌==◌, nat_le, min, Option, cond}
use Rattle.mc_task.specs.declared.task.Rule.{Rule}
use Rattle.mc_task.specs.declared.task.Task.{Task}
use Rattle.mc_model.specs.declared.row.How.{How}
use Rattle.mc_model.specs.declared.row.How.TheVariants.{More, Stop, Over}
use Rattle.mc_model.specs.TaskNumbers.{period_in, low_in, own_in, is_high_in}
use Rattle.mc_task.specs.Kinds.{is_virtual}
use Rattle.mc_model.specs.Legal.{same_how, is_done}

-- the u-th tick of a job of the task passes the low budget in low mode
abbrev pub overruns : Rule → Bool → Option Task → ℕ → Bool
overruns rule high t u = is_high_in t && is_virtual rule && not high && (u == low_in t)

-- the budget before which ticks go on: the low one where passing it is an overrun, otherwise the own one
abbrev pub budget : Rule → Bool → Option Task → ℕ
budget rule high t = cond (is_high_in t && is_virtual rule && not high) (low_in t) (own_in t)

-- the u-th tick of a job of the task may end in this way
abbrev pub allows : Rule → Bool → Option Task → ℕ → How → Bool
allows rule high t u how = (is_done how && nat_le u (own_in t))
    || same_how how (cond (u == own_in t) Stop (cond (overruns rule high t u) Over More))

-- how many of the next n ticks of a job of the task may end in this way, if the job has had `used` ticks
abbrev pub fitting : Rule → Bool → Option Task → ℕ → How → ℕ → ℕ
fitting rule high t used More n = min n (budget rule high t - used - 1)
fitting rule high t used how n = cond (allows rule high t (used + 1) how) n 0

-- the deadline of a job of the task that was released at r has come at boundary now
abbrev pub is_due_at : Option Task → ℕ → ℕ → Bool
is_due_at t r now = nat_le (r + period_in t) now
