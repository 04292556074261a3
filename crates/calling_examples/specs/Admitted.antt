-- The reasons why a set has no rule.
use Rattle.std.specs.Prelude.{◌≡◌, List, Some, None}
use Rattle.mc_task.specs.declared.task.Task.{Task}
use Rattle.mc_model.specs.Loads.{range_fault}
use Rattle.mc_model.specs.Test.{published}
use Rattle.calling_examples.specs.declared.admitted.NoRule.{NoRule}
use Rattle.calling_examples.specs.declared.admitted.NoRule.TheVariants.{Range, NotAdmitted}

-- the task takes the hyperperiod out of range, or the test gives no rule
abbrev pub IsReason : List Task → NoRule → Type 0
IsReason set (Range task) = range_fault set ≡ Some task.0
IsReason set NotAdmitted = published set ≡ None
