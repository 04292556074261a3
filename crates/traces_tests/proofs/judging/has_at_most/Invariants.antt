use Rattle.std.proofs.Common.{◌≡◌, ◌≤◌, ◌+◌, ◌^◌, take}
use Rattle.mc_model.specs.Sums.{total}
use Rattle.mc_model.specs.Runs.{length_of}
use Rattle.traces_tests.proofs.judging.has_at_most.Given as goal

abbrev pub invariant-loop-run : goal.invariant-loop-run
invariant-loop-run l = (l.ticks ≡ total length_of (take l.run-index l.runs)) × (l.ticks ≤ l.most + 2 ^ 32)
