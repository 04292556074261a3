-- The text of floors at the end of their plans.
use Rattle.std.specs.Prelude.{ℕ, ◌≤◌, List, ◌++◌, reverse, codes, decimal}
use Rattle.mc_model.specs.TraceText.{trace_text}
use Rattle.timetable.specs.Floor.{FloorState}

-- the floor's capacity is at most 2,000,000 rows
abbrev pub HasSmallCapacity : FloorState → Type 0
HasSmallCapacity floor = floor.core.places ≤ 2000000

-- what is written of a processor and its floor: a line with the processor's number, and then the text of the
-- floor's trace
abbrev pub floor_lines : ℕ × FloorState → List ℕ
floor_lines on =
    codes "processor " ++ (decimal on.0 ++ (codes "\n" ++ trace_text on.1.core.set (reverse on.1.core.rows)))
