use Rattle.std.proofs.Common.{sym, ◌∙◌}
use Rattle.mc_task.proofs.TaskLemmas.{AreTasks-right}
use Rattle.mc_task.proofs.set.TaskSet.new.Goals as goal

pub invariant_of-result : goal.invariant_of-result
invariant_of-result c = record {
  tasks = AreTasks-right _ (rw c.deref.ensures.value at c.in-None.ensures.tasks) (rw c.deref.ensures.value at (sym c.fault_of.ensures.fault ∙ c.in-None.is));
  scale = tt;
}
