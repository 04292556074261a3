use Rattle.std.proofs.Common.{◌≡◌, ℕ, ◌<◌, length, get_or}
use Rattle.study.specs.Levels.{more_than}
use Rattle.study.proofs.counting.counts.Given as goal

abbrev pub invariant-loop-step : goal.invariant-loop-step
invariant-loop-step l = record {
  long : length l.counts ≡ 11;
  each : (k : ℕ) → k < l.step → get_or l.counts k 0 ≡ more_than k l.reached;
}
