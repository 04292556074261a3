-- What the test of a set gives: its loads and its rule, or the reason why it has none.
use Rattle.std.specs.Prelude.{◌≡◌, List, Option, Some, None}
use Rattle.mc_task.specs.declared.task.Task.{Task}
use Rattle.mc_task.specs.declared.task.Scale.{Scale}
use Rattle.mc_model.specs.Loads.{range_fault, IsWithinRange}
use Rattle.mc_model.specs.Test.{scaled_or_published}
use Rattle.mc_model.specs.Holds.{Fits, Holds}
use Rattle.load_sum.specs.Belong.{BelongTo}
use Rattle.admission.specs.declared.tested.Tested.{Tested}
use Rattle.admission.specs.declared.tested.NoRule.{NoRule}
use Rattle.admission.specs.declared.tested.NoRule.TheVariants.{Range, NotAdmitted}

-- the loads are those of the tasks, and the rule is that of the test with this scale, or of the published
-- test without one; it fits, and holds for the tasks
pub record IsTested (tasks : List Task) (scale : Option Scale) (tested : Tested) : Type 0 where
  pub range : range_fault tasks ≡ None
  pub loads : BelongTo tasks tested.loads
  pub rule : scaled_or_published tasks scale ≡ Some tested.rule
  pub fits : Fits tested.rule
  pub holds : Holds tasks tested.rule

-- the reason is true: the period of this task takes the hyperperiod past 2^60, or the test gives the tasks,
-- which have these loads, no rule
abbrev pub IsNoRule : List Task → Option Scale → NoRule → Type 0
IsNoRule tasks scale (Range task) = (range_fault tasks ≡ Some task.0) × (IsWithinRange tasks → ⊥)
IsNoRule tasks scale (NotAdmitted loads) =
    BelongTo tasks loads × (range_fault tasks ≡ None) × (scaled_or_published tasks scale ≡ None)
