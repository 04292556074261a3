-- What may change in the given tasks with the published test still admitting them, in numbers.
use Rattle.std.specs.Prelude.{◌≡◌, ℕ, ◌+◌, ◌<◌, List, None, Some, length, slice_get, unwrap_or}
use Rattle.mc_task.specs.declared.task.Task.{Task}
use Rattle.mc_task.specs.declared.task.Rule.TheVariants.{Virtual}
use Rattle.mc_task.specs.TaskSet.{AreTasks}
use Rattle.mc_model.specs.Loads.{range_fault}
use Rattle.mc_model.specs.Test.{published}
use Rattle.mc_model.specs.Holds.{Holds}
use Rattle.sensitivity.specs.declared.budget.GreatestBudgets.{GreatestBudgets}
use Rattle.sensitivity.specs.Budgets.{AreGreatestOf}
use Rattle.sensitivity.specs.Scales.{HoldBetween, NoScaleHolds}
use Rattle.sensitivity.specs.Speeds.{IsLeastSpeed}
use Rattle.tick_frac.specs.Fraction.{Fraction, IsLowest}
use Rattle.edfvd_c.specs.declared.sets.given.CTask.{CTask}
use Rattle.edfvd_c.specs.declared.sets.margins.CBudgets.{CBudgets}
use Rattle.edfvd_c.specs.declared.sets.margins.CScaleRange.{CScaleRange}
use Rattle.edfvd_c.specs.Sets.Given.{AreOf}

-- a task's greatest budgets in numbers: 0 if there is none
abbrev pub budgets_of : GreatestBudgets → CBudgets
budgets_of g = record { low = unwrap_or g.low 0; high = unwrap_or g.high 0 }

-- the budgets at index i are the greatest ones of task number i + 1
abbrev pub IsGreatestAt : List Task → List CBudgets → ℕ → Type 0
IsGreatestAt tasks budgets i = (g : GreatestBudgets) × AreGreatestOf tasks (i + 1) g × (slice_get budgets i ≡ Some (budgets_of g))

-- the tasks have these numbers and are a set within range, and these are the greatest budgets of each of them, in order
pub record AreGreatest (given : List CTask) (budgets : List CBudgets) : Type 0 where
  pub tasks : List Task
  pub numbers : AreOf given tasks
  pub set : AreTasks tasks
  pub range : range_fault tasks ≡ None
  pub count : length budgets ≡ length given
  pub each : (i : ℕ) → i < length given → IsGreatestAt tasks budgets i

-- the least scale
abbrev pub least_of : CScaleRange → Fraction
least_of s = record { num = s.least_p; den = s.least_q }

-- the greatest scale
abbrev pub greatest_of : CScaleRange → Fraction
greatest_of s = record { num = s.greatest_p; den = s.greatest_q }

-- the tasks have these numbers and are a set within range, exactly the scales between these two hold for them, and the greatest one
-- is one of them; both are in lowest terms
pub record AreScales (given : List CTask) (s : CScaleRange) : Type 0 where
  pub tasks : List Task
  pub numbers : AreOf given tasks
  pub set : AreTasks tasks
  pub range : range_fault tasks ≡ None
  pub between : HoldBetween (least_of s) (greatest_of s) tasks
  pub greatest : Holds tasks (Virtual s.greatest_p s.greatest_q)
  pub least_lowest : IsLowest (least_of s)
  pub greatest_lowest : IsLowest (greatest_of s)

-- the tasks have these numbers and are a set within range, no scale holds for them, and the published test does not admit them
pub record HaveNoScale (given : List CTask) : Type 0 where
  pub tasks : List Task
  pub numbers : AreOf given tasks
  pub set : AreTasks tasks
  pub range : range_fault tasks ≡ None
  pub none : NoScaleHolds tasks
  pub refused : published tasks ≡ None

-- the tasks have these numbers and are a set within range, and this is their least speed in millionths
pub record IsSpeed (given : List CTask) (millionths : ℕ) : Type 0 where
  pub tasks : List Task
  pub numbers : AreOf given tasks
  pub set : AreTasks tasks
  pub range : range_fault tasks ≡ None
  pub least : IsLeastSpeed millionths 1000000 tasks

-- no scales
abbrev pub zeros : CScaleRange
zeros = record { least_p = 0; least_q = 0; greatest_p = 0; greatest_q = 0 }
