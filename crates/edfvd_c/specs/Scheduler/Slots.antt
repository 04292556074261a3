-- How the latest runs are kept: the beginning of the run of number n in slot n % 256.
use Rattle.std.specs.Prelude.{◌≡◌, ℕ, ◌+◌, ◌≤◌, ◌<◌, ◌%◌, List, reverse, length, slice_get, IfSome}
use Rattle.mc_model.specs.declared.row.Row.{Row}
use Rattle.edfvd_c.specs.declared.scheduler.latest.LatestRows.TheInside.{Inside}
use Rattle.edfvd_c.specs.Scheduler.Latest.{begins}

-- all rows, the newest first
abbrev pub rows_of : Inside → List Row
rows_of a = a.rows

-- each of the latest 256 elements is in the slot of its number
abbrev pub IsInSlots : {T : Type 0} → List T → List T → Type 0
IsInSlots all slots =
    (n : ℕ) → n < length all → length all ≤ n + 256 → slice_get slots (n % 256) ≡ slice_get all n

-- the row is the newest of these, if there is one; the newest stands first
abbrev pub IsNewest : Row → List Row → Type 0
IsNewest row h = IfSome (slice_get h 0) (λ newest. row ≡ newest)

-- the newest row is kept, the runs are counted, and the beginnings of the latest are in their slots
pub record AreLatest (a : Inside) : Type 0 where
  pub newest : IsNewest a.newest (rows_of a)
  pub slots : length a.slots.items ≡ 256
  pub runs : a.runs ≡ length (begins (rows_of a))
  pub latest : IsInSlots (reverse (begins (rows_of a))) a.slots.items
