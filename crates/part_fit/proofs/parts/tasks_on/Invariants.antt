use Rattle.std.proofs.Common.{◌≡◌, take}
use Rattle.part_fit.specs.Parts.{part_of}
use Rattle.part_fit.proofs.parts.tasks_on.Given as goal

abbrev pub invariant-loop-i : goal.invariant-loop-i
invariant-loop-i l = l.own.items ≡ part_of l.tasks (take l.i l.fn.of) l.fn.processor
