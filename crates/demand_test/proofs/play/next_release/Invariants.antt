use Rattle.std.proofs.Common.{◌<◌, ◌≤◌, ◌+◌, ◌%◌, take}
use Rattle.std.specs.List.{AllByRecursion}
use Rattle.demand_test.proofs.play.next_release.Given as goal

abbrev pub invariant-loop-t : goal.invariant-loop-t
invariant-loop-t l = record {
  later : l.tick < l.next;
  last : l.next ≤ l.last;
  each : AllByRecursion (λ t. l.next + l.tick % t.period ≤ l.tick + t.period) (take l.t-index l.tasks);
}
