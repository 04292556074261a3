use Rattle.std.proofs.Common.{◌≡◌, ◌++◌, ◌≤◌, length}
use Rattle.mc_model.specs.Runs.{pack}
use Rattle.trace_format.proofs.packing.pack.Given as goal

abbrev pub invariant-loop-run : goal.invariant-loop-run
invariant-loop-run l = record { pack : l.runs.items ++ pack l.rest ≡ pack l.rows; few : length l.rest ≤ 2000000 }

abbrev pub decreases-loop-run : goal.decreases-loop-run
decreases-loop-run l = length l.rest
