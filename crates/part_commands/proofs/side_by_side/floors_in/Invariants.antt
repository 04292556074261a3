use Rattle.std.proofs.Common.{◌≡◌, ◌++◌, reverse}
use Rattle.std.specs.Prelude.{vec_len}
use Rattle.part_commands.specs.Runs.{results_of}
use Rattle.part_commands.proofs.side_by_side.floors_in.Given as goal

abbrev pub invariant-loop-result : goal.invariant-loop-result
invariant-loop-result l = results_of l.floors.items ++ reverse l.results.items ≡ l.fn.results.items

abbrev pub decreases-loop-result : goal.decreases-loop-result
decreases-loop-result l = vec_len l.results
