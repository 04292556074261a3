use Rattle.std.proofs.Common.{◌≡◌, ◌*◌, min}
use Rattle.study.specs.Acceptance.{accept_table}
use Rattle.study.proofs.acceptance.total.Given as goal

abbrev pub invariant-loop-index : goal.invariant-loop-index
invariant-loop-index l = l.counts ≡ accept_table l.number (min l.sets (128 * l.index)) l.tasks
