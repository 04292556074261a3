-- Packed runs, and two runs joined into one.
use Rattle.std.specs.Prelude.{◌≡◌, ◌+◌, ◌-◌, false, List, Option, Some, None, cond, length, slice_get, option_and_then}
use Rattle.std.specs.List.{AllByRecursion}
use Rattle.mc_model.specs.Rows.{same_job}
use Rattle.mc_model.specs.declared.row.How.TheVariants.{More}
use Rattle.mc_model.specs.declared.row.Row.{Row}
use Rattle.mc_model.specs.declared.run.Run.{Run}
use Rattle.mc_model.specs.declared.run.Run.TheVariants.{Ticks, Idles}
use Rattle.mc_model.specs.Runs.{IsRun, IsPacked, joins, run_of}

-- each run is valid, and no two neighbours could be one run
pub record ArePacked (runs : List Run) : Type 0 where
  pub each : AllByRecursion IsRun runs
  pub packed : IsPacked runs

-- two runs as one, if they could be
abbrev pub joined : Run → Run → Option Run
joined (Idles m) (Idles n) = Some (Idles (m + n))
joined (Ticks i More m) (Ticks j More n) = cond (same_job i j) (Some (Ticks i More (m + n))) None
joined _ _ = None

-- the last of the runs and this one as one, if they could be
abbrev pub with_last : List Run → Run → Option Run
with_last runs s = option_and_then (λ last. joined last s) (slice_get runs (length runs - 1))

-- the first of these rows, if any, could not be one run with this row
abbrev pub StartsApart : Row → List Row → Type 0
StartsApart row rows = (next : Row) → slice_get rows 0 ≡ Some next → joins (run_of row) (run_of next) ≡ false
