use Rattle.std.proofs.Common.{◌≡◌, ◌+◌, ◌*◌, ◌≤◌, ◌^◌, drop}
use Rattle.mc_model.specs.Loads.{load}
use Rattle.study.specs.Loads.{budget_at}
use Rattle.study.proofs.room.sum_at.Given as goal

abbrev pub invariant-loop-task : goal.invariant-loop-task
invariant-loop-task l = record {
  sum : l.sum + load (budget_at l.s) l.lcm (drop l.task-index l.tasks) ≡ load (budget_at l.s) l.lcm l.tasks;
  small : l.sum ≤ l.task-index * 2 ^ 92;
}
