use Rattle.std.proofs.Common.{◌≡◌, ◌++◌, replicate}
use Rattle.demand_test.proofs.play.push_times.Given as goal

abbrev pub invariant-loop : goal.invariant-loop
invariant-loop l = l.rows.items ≡ l.initial.rows.items ++ replicate l.counter l.row
