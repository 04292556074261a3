-- Runs: equal rows of a trace in one record. Runs and rows stand in the order of the text, THE OLDEST FIRST.
use Rattle.std.specs.Prelude.{◌≡◌, ◌≤◌, ℕ, ◌+◌, Bool, true, false, List, [], ◌∷◌, ◌++◌, cond, length, replicate, All}
use Rattle.mc_task.specs.declared.task.Task.{Task}
use Rattle.mc_model.specs.Sums.{total}
use Rattle.mc_model.specs.Rows.{same_job}
use Rattle.mc_model.specs.Legal.{IsOfSet}
use Rattle.mc_model.specs.declared.row.How.TheVariants.{More}
use Rattle.mc_model.specs.declared.row.Row.{Row}
use Rattle.mc_model.specs.declared.row.Row.TheVariants.{Release, Tick, Idle}
use Rattle.mc_model.specs.declared.run.Run.{Run}
use Rattle.mc_model.specs.declared.run.Run.TheVariants as run

-- the row that a run repeats
abbrev pub row_of : Run → Row
row_of (run.Release j kept) = Release j kept
row_of (run.Ticks j how n) = Tick j how
row_of (run.Idles n) = Idle

-- how many ticks the run has
abbrev pub length_of : Run → ℕ
length_of (run.Release j kept) = 0
length_of (run.Ticks j how n) = n
length_of (run.Idles n) = n

-- how many rows the run stands for: one for a release, otherwise one for each tick
abbrev pub size : Run → ℕ
size (run.Release j kept) = 1
size r = length_of r

-- the rows that a run stands for
abbrev pub rows_of : Run → List Row
rows_of r = replicate (size r) (row_of r)

-- the rows that a list of runs stands for
abbrev pub expand : List Run → List Row
expand [] = []
expand (r ∷ rs) = rows_of r ++ expand rs

-- a valid run: it stands for a row, and several ticks of a job stand in one run only if the job goes on after
-- each of them
abbrev pub IsRun : Run → Type 0
IsRun (run.Release j kept) = Unit {0}
IsRun (run.Ticks j how n) = (1 ≤ n) × (2 ≤ n → how ≡ More)
IsRun (run.Idles n) = 1 ≤ n

-- a valid list of runs: each run is valid, and it has at most 2,000,000 runs and 100,000,000 ticks
pub record AreRuns (runs : List Run) : Type 0 where
  pub each : All IsRun runs
  pub few : length runs ≤ 2000000
  pub short : total length_of runs ≤ 100000000

-- the task of a run is in the set
abbrev pub IsRunOfSet : List Task → Run → Type 0
IsRunOfSet set r = IsOfSet set (row_of r)

-- whether two neighbours could be one run: idle ticks, or ticks of one job that goes on after each
abbrev pub joins : Run → Run → Bool
joins (run.Idles m) (run.Idles n) = true
joins (run.Ticks i More m) (run.Ticks j More n) = same_job i j
joins _ _ = false

-- no two neighbours in the list could be one run
abbrev pub IsPacked : List Run → Type 0
IsPacked [] = Unit {0}
IsPacked (r ∷ []) = Unit {0}
IsPacked (r ∷ s ∷ rs) = (joins r s ≡ false) × IsPacked (s ∷ rs)

-- a row as a run of its own
abbrev pub run_of : Row → Run
run_of (Release j kept) = run.Release j kept
run_of (Tick j how) = run.Ticks j how 1
run_of Idle = run.Idles 1

-- the run with one more row
abbrev pub longer : Run → Run
longer (run.Release j kept) = run.Release j kept
longer (run.Ticks j how n) = run.Ticks j how (n + 1)
longer (run.Idles n) = run.Idles (n + 1)

-- a row put before runs: joined to the first run if it can be
abbrev pub put_before : Row → List Run → List Run
put_before row [] = run_of row ∷ []
put_before row (r ∷ rs) = cond (joins (run_of row) r) (longer r ∷ rs) (run_of row ∷ r ∷ rs)

-- the rows as the fewest runs: no two neighbours could be one run
abbrev pub pack : List Row → List Run
pack [] = []
pack (row ∷ rows) = put_before row (pack rows)
