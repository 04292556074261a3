-- How the code's values stand for the set, the rule and the work that a file gives.
use Rattle.std.specs.Prelude.{◌≡◌, List}
use Rattle.mc_task.specs.declared.task.Task.{Task}
use Rattle.mc_model.specs.declared.work.WorkRow.{WorkRow}
use Rattle.mc_model.specs.Work.{IsWork}
use Rattle.mc_model.specs.Holds.{Holds, Fits}
use Rattle.load_sum.specs.Belong.{BelongTo}
use Rattle.command.specs.declared.admitted.SetWithRule.{SetWithRule}
use Rattle.command.specs.declared.admitted.Admitted.{Admitted}

-- the code's value has the set, its loads, and the rule, which fits and holds for the set
pub record IsGivenAs (ruled : SetWithRule) (given : Admitted) : Type 0 where
  pub set : given.set ≡ ruled.set
  pub rule : given.rule ≡ ruled.rule
  pub loads : BelongTo ruled.set.tasks given.loads
  pub fits : Fits ruled.rule
  pub holds : Holds ruled.set.tasks ruled.rule

-- the code's value has the set and the rule, which fits
pub record IsSetWithRule (ruled given : SetWithRule) : Type 0 where
  pub set : given.set ≡ ruled.set
  pub rule : given.rule ≡ ruled.rule
  pub fits : Fits ruled.rule

-- the code's work is the work in the file, and is for the set
pub record IsWorkOf (set : List Task) (read given : List WorkRow) : Type 0 where
  pub same : given ≡ read
  pub is_work : IsWork set given
