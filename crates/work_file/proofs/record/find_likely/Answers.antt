use Rattle.std.proofs.Common.{refl, sym}
use Rattle.mc_task.proofs.NamedLemmas.{found_task}
use Rattle.work_file.proofs.record.find_likely.Goals as goal

-- if the likely task has the name, it is the task that the name finds
pub returns-then-is_named-clause-number : goal.returns-then-is_named-clause-number
returns-then-is_named-clause-number c =
    sym (found_task c.args.set.now.tasks c.task_after-likely.result.0 c.args.name.now c.len-is_set.ensures.set (c.if-is_named.ensures.inside refl) (c.if-is_named.ensures.name refl))
