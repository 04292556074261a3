use Rattle.std.proofs.Common.{◌≡◌, ◌++◌, drop}
use Rattle.std.specs.Prelude.{flat_map, zip}
use Rattle.part_commands.specs.Traced.{floor_lines}
use Rattle.part_commands.proofs.traces.traces_text.Given as goal

abbrev pub invariant-loop-i : goal.invariant-loop-i
invariant-loop-i l =
    l.text.items ++ flat_map floor_lines (zip (drop l.i l.fn.processors) (drop l.i l.fn.floors)) ≡ flat_map floor_lines (zip l.fn.processors l.fn.floors)
