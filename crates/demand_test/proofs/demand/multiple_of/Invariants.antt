use Rattle.std.proofs.Common.{◌≡◌, take, drop, []}
use Rattle.demand_test.specs.DemandList.{refusal_from}
use Rattle.demand_test.specs.SoFar.{IsSoFar}
use Rattle.demand_test.proofs.demand.multiple_of.Given as goal

abbrev pub invariant-loop-i : goal.invariant-loop-i
invariant-loop-i l = record {
  rest : refusal_from (take l.i l.tasks) (drop l.i l.tasks) ≡ refusal_from [] l.tasks;
  so_far : IsSoFar (take l.i l.tasks) l.multiple;
}
