use Rattle.std.proofs.Common.{◌≡◌, ◌++◌, ◌+◌, ◌-◌, filter}
use Rattle.std.specs.List.{range_with_len}
use Rattle.part_commands.specs.RunAll.{is_used, used}
use Rattle.part_commands.specs.Planned.{parted_of, ArePlanned}
use Rattle.part_commands.proofs.floors.floors_of.Given as goal

abbrev pub invariant-loop-processor : goal.invariant-loop-processor
invariant-loop-processor l = record {
  used : l.parts.used.items ++ filter (is_used (parted_of l.fn.job.parted)) (range_with_len l.processor (l.fn.processors + 1 - l.processor)) ≡ used l.fn.processors (parted_of l.fn.job.parted);
  planned : ArePlanned l.fn.ticks (parted_of l.fn.job.parted) l.fn.job.work l.parts;
}
