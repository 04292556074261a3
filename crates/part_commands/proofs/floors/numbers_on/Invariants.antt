use Rattle.std.proofs.Common.{◌≡◌, ◌++◌, ◌+◌, ◌-◌, filter, length, map}
use Rattle.std.specs.List.{range_with_len}
use Rattle.mc_task.specs.declared.task.TaskNo.{TaskNo}
use Rattle.part_fit.specs.PartWork.{is_on}
use Rattle.part_commands.specs.Planned.{numbers_on}
use Rattle.part_commands.proofs.floors.numbers_on.Given as goal

abbrev pub invariant-loop-i : goal.invariant-loop-i
invariant-loop-i l =
    map (λ (k : TaskNo). k.0) l.numbers.items ++ filter (is_on l.fn.processor l.fn.of) (range_with_len (l.i + 1) (length l.fn.of + 1 - (l.i + 1)))
    ≡ numbers_on l.fn.processor l.fn.of (length l.fn.of)
