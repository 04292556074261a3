use Rattle.std.proofs.Common.{sym}
use Rattle.mc_task.proofs.NamedLemmas.{found_task}
use Rattle.mc_task.proofs.set.TaskSet.find.Goals as goal

pub returns-in-Some-clause-number : goal.returns-in-Some-clause-number
returns-in-Some-clause-number c =
    rw (← c.self.view_is) (sym (found_task c.self.inside.tasks.items c.in-Some.task.0 c.args.name.now c.self.invariant.tasks (rw c.deref.ensures.value at c.in-Some.ensures.inside) (rw c.deref.ensures.value at c.in-Some.ensures.name)))
