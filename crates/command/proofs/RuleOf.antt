-- The rule that the test gives a set.
use Rattle.std.proofs.Common.{◌≡◌, Option}
use Rattle.mc_task.specs.declared.task.Rule.{Rule}
use Rattle.mc_task.specs.TaskSet.{Set}
use Rattle.mc_model.specs.Test.{test, scaled_or_published}

-- it is the rule of the set's scale, or of the published test
pub rule_of_test : (set : Set) (rule : Option Rule) → scaled_or_published set.tasks set.scale ≡ rule → test set ≡ rule
unfolding test
rule_of_test set rule same = same
