-- The scale of a task file: what its array says, or the first refusal.
use Rattle.std.specs.Prelude.{ℕ, ℤ, ◌^◌, pos, ◌&&◌, nat_le, nat_lt, if◌then◌else◌, Option, Some, None, Result, Ok}
use Rattle.toml.specs.Data.{Data, integer, array, no_items, item}
use Rattle.tick_frac.specs.Fraction.{lowest}
use Rattle.mc_task.specs.declared.task.Scale.{Scale}
use Rattle.task_file.specs.Refusals.{◌>>=◌, or_refuse}
use Rattle.task_file.specs.declared.key.KeyName.TheVariants as key
use Rattle.task_file.specs.declared.fault.TaskFault.{TaskFault}
use Rattle.task_file.specs.declared.fault.TaskFault.TheVariants.{WrongKind, OutOfRange}

-- the two whole numbers of an array of exactly two
abbrev pub numbers_of : Data → Option (ℤ × ℤ)
numbers_of (array (item (integer p) (item (integer q) no_items))) = Some (p, q)
numbers_of _ = None

-- p/q in lowest terms
abbrev pub lowest_scale : ℕ → ℕ → Scale
lowest_scale p q = record { p = (lowest p q).num; q = (lowest p q).den }

-- the scale p/q in lowest terms, if 1 ≤ p ≤ q ≤ 4,294,967,295
abbrev pub scale_of : ℤ → ℤ → Option Scale
scale_of (pos p) (pos q) =
    if nat_le 1 p && (nat_le p q && nat_lt q (2 ^ 32)) then Some (lowest_scale p q) else None
scale_of _ _ = None

-- the scale that a file says, if it has one, or the first refusal
unfoldable pub scale_in : Option Data → Result (Option Scale) TaskFault
scale_in None = Ok None
scale_in (Some d) = do
  numbers ← or_refuse (WrongKind 0 key.Scale) (numbers_of d)
  scale ← or_refuse (OutOfRange 0 key.Scale) (scale_of numbers.0 numbers.1)
  Ok (Some scale)
