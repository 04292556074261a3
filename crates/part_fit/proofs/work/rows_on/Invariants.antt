use Rattle.std.proofs.Common.{◌≡◌, take}
use Rattle.part_fit.specs.PartWork.{part_rows}
use Rattle.part_fit.proofs.work.rows_on.Given as goal

abbrev pub invariant-loop-row : goal.invariant-loop-row
invariant-loop-row l = l.own.items ≡ part_rows l.fn.processor l.fn.of (take l.row-index l.fn.rows)
