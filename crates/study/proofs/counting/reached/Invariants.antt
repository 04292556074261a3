use Rattle.std.proofs.Common.{◌+◌}
use Rattle.std.specs.List.{AllZip, range_with_len}
use Rattle.study.specs.Acceptance.{generated_stretch}
use Rattle.study.specs.Levels.{IsReached}
use Rattle.study.proofs.counting.reached.Given as goal

abbrev pub invariant-loop-i : goal.invariant-loop-i
invariant-loop-i l = AllZip (λ i k. IsReached (generated_stretch (l.number + i) l.tasks) k) (range_with_len 0 l.i) l.reached.items
