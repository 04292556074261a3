use Rattle.demand_test.proofs.NextNumber.{Counted}
use Rattle.demand_test.proofs.tick_line.count_up.Given as goal

abbrev pub invariant-loop-at : goal.invariant-loop-at
invariant-loop-at l = Counted l.initial.digits l.digits l.at

abbrev pub decreases-loop-at : goal.decreases-loop-at
decreases-loop-at l = l.at
