use Rattle.std.proofs.Common.{refl, sym}
use Rattle.mc_task.proofs.NamedLemmas.{found_task}
use Rattle.mc_task.proofs.set.TaskSet.find_near.Goals as goal

pub returns-then-has_name-clause-number : goal.returns-then-has_name-clause-number
returns-then-has_name-clause-number c =
    rw (← c.self.view_is) (sym (found_task c.self.inside.tasks.items c.args.near.0 c.args.name.now c.self.invariant.tasks (rw c.deref.ensures.value at (c.if-has_name.ensures.inside refl)) (rw c.deref.ensures.value at (c.if-has_name.ensures.name refl))))

pub returns-then-has_name-2-clause-number : goal.returns-then-has_name-2-clause-number
returns-then-has_name-2-clause-number c =
    rw (← c.self.view_is) (sym (found_task c.self.inside.tasks.items c.task_after-next.result.0 c.args.name.now c.self.invariant.tasks (rw c.deref-2.ensures.value at (c.if-has_name-2.ensures.inside refl)) (rw c.deref-2.ensures.value at (c.if-has_name-2.ensures.name refl))))
