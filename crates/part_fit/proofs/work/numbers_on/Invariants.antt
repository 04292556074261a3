use Rattle.std.proofs.Common.{◌≡◌, ◌≤◌}
use Rattle.part_fit.specs.PartWork.{number_on}
use Rattle.part_fit.specs.Numbering.{numbers_there}
use Rattle.part_fit.proofs.work.numbers_on.Given as goal

abbrev pub invariant-loop-i : goal.invariant-loop-i
invariant-loop-i l = record {
  numbers : l.numbers.items ≡ numbers_there l.fn.processor l.fn.of l.i;
  last : l.last ≡ number_on l.fn.processor l.fn.of l.i;
  small : l.last ≤ l.i;
}
