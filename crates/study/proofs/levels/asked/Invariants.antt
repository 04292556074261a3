use Rattle.std.proofs.Common.{◌≡◌, ◌+◌, ◌*◌, ◌≤◌, drop}
use Rattle.std.specs.List.{AllByRecursion}
use Rattle.mc_model.specs.Sums.{total}
use Rattle.study.specs.Levels.{asks_at, IsSmall}
use Rattle.study.proofs.levels.asked.Given as goal

abbrev pub invariant-loop-high : goal.invariant-loop-high
invariant-loop-high l = record {
  sum : l.sum + total (asks_at l.s) (drop l.high-index l.highs) ≡ total (asks_at l.s) l.highs;
  small : l.sum ≤ l.high-index * 6000000;
  left : AllByRecursion IsSmall (drop l.high-index l.highs);
}
