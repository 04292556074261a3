use Rattle.std.proofs.Common.{◌-◌, reverse}
use Rattle.demand_test.specs.Play.{OnTheWay}
use Rattle.demand_test.proofs.play.Play.run_to.Given as goal

abbrev pub invariant-loop-at : goal.invariant-loop-at
invariant-loop-at l = OnTheWay l.set l.at l.next (reverse l.self.rows.items) l.self.jobs.items

abbrev pub decreases-loop-at : goal.decreases-loop-at
decreases-loop-at l = l.next - l.at
