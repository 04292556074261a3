use Rattle.std.proofs.Common.{◌≡◌, map}
use Rattle.std.specs.Prelude.{take}
use Rattle.edfvd_c.specs.Row.{row_numbers}
use Rattle.edfvd_c.proofs.traces.judged.rows_of.Given as goal

abbrev pub invariant-loop-place : goal.invariant-loop-place
invariant-loop-place l = map row_numbers l.rows.items ≡ take l.place l.given
