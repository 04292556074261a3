use Rattle.std.proofs.Common.{◌≡◌, ◌++◌, ◌+◌, ◌-◌}
use Rattle.std.specs.Prelude.{flat_map}
use Rattle.std.specs.List.{range_with_len}
use Rattle.part_commands.specs.Partition.{processor_line, partition_text}
use Rattle.part_commands.specs.Planned.{parted_of}
use Rattle.part_commands.proofs.partition.partition_text.Given as goal

abbrev pub invariant-loop-processor : goal.invariant-loop-processor
invariant-loop-processor l =
    l.text.items ++ flat_map (processor_line (parted_of l.fn.parted)) (range_with_len l.processor (l.fn.processors + 1 - l.processor))
    ≡ partition_text l.fn.processors (parted_of l.fn.parted)
