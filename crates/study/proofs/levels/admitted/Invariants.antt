use Rattle.std.proofs.Common.{◌+◌, ◌*◌, ◌<◌, ◌≤◌, ℕ}
use Rattle.mc_model.specs.Sums.{total}
use Rattle.study.specs.Levels.{asks_at}
use Rattle.study.proofs.levels.admitted.Given as goal

abbrev pub invariant-loop-step : goal.invariant-loop-step
invariant-loop-step l = (i : ℕ) → i < l.step → total (asks_at (100 + 10 * i)) l.highs ≤ l.most
