use Rattle.std.proofs.Common.{◌≡◌, ℕ, ◌+◌, ◌<◌}
use Rattle.std.specs.Prelude.{slice_get}
use Rattle.edfvd_c.proofs.scheduler.rows.equal_from.Given as goal

-- the rows so far are equal to the first
abbrev pub invariant-loop-times : goal.invariant-loop-times
invariant-loop-times l = (i : ℕ) → i < l.times → slice_get l.rows (l.place + i) ≡ slice_get l.rows l.place
