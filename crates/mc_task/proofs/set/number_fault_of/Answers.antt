use Rattle.std.proofs.lemmas.List.{take_all}
use Rattle.std.proofs.lemmas.List.Elements.{All-more}
use Rattle.std.proofs.lemmas.Grind.{common_steps}
use Rattle.std.proofs.Common.{arith, All, subst, length, ◌≤◌}
use Rattle.mc_task.specs.TaskSet.{IsTask}
use Rattle.mc_task.proofs.set.number_fault_of.Goals as goal

pub loop-i-preserved : goal.loop-i-preserved
loop-i-preserved c = record {
  fault = grind (arith, common_steps);
  tasks = All-more IsTask c.args.tasks.now c.loop-i.i c.index-tasks-i.result c.loop-i-test.true c.loop-i.invariant.tasks (subst (λ t. IsTask t) c.index-tasks-i.is c.in_default.ensures.task);
}

pub returns-clause-tasks : goal.returns-clause-tasks
returns-clause-tasks c =
    let past : length c.args.tasks.now ≤ c.loop-i.i = omega arith in
    subst (λ ts. All IsTask ts) (take_all c.loop-i.i c.args.tasks.now past) c.loop-i.invariant.tasks
