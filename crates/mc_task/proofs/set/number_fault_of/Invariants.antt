use Rattle.std.proofs.Common.{◌≡◌, drop, take, All}
use Rattle.mc_task.specs.TaskSet.{IsTask}
use Rattle.mc_task.specs.Faults.{number_fault_from}
use Rattle.mc_task.proofs.set.number_fault_of.Given as goal

abbrev pub invariant-loop-i : goal.invariant-loop-i
invariant-loop-i l = record {
  fault : number_fault_from l.i (drop l.i l.tasks) ≡ number_fault_from 0 l.tasks;
  tasks : All IsTask (take l.i l.tasks);
}
