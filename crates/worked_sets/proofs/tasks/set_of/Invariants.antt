use Rattle.std.proofs.Common.{◌≡◌, map, take}
use Rattle.worked_sets.specs.Lines.{task_of}
use Rattle.worked_sets.proofs.tasks.set_of.Given as goal

abbrev pub invariant-loop-name : goal.invariant-loop-name
invariant-loop-name l = l.tasks.items ≡ map task_of (take l.name-index l.lines)
