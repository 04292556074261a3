-- What holds of the runs that are read so far.
use Rattle.std.specs.Prelude.{◌≡◌, ◌+◌, ◌<◌, ◌≤◌, ℕ, List, length}
use Rattle.mc_task.specs.declared.task.Task.{Task}
use Rattle.mc_model.specs.Sums.{total}
use Rattle.mc_model.specs.declared.run.Run.{Run}
use Rattle.mc_model.specs.Runs.{length_of, IsRun, IsRunOfSet}
use Rattle.trace_format.specs.declared.read.Reading.{Reading}

-- a run of the set that may stand after this many ticks
pub record MayStandAfter (set : List Task) (due : ℕ) (r : Run) : Type 0 where
  pub is_run : IsRun r
  pub task : IsRunOfSet set r
  pub short : due + length_of r ≤ 100000000

-- a run of the set that may be the next one after these
abbrev pub MayComeNext : List Task → List Run → Run → Type 0
MayComeNext set before r = (length before < 2000000) × MayStandAfter set (total length_of before) r

-- the runs are few and short enough, and the next tick is the one after them
pub record AreRead (runs : List Run) (reading : Reading) : Type 0 where
  pub count : reading.count ≡ length runs
  pub few : reading.count ≤ 2000000
  pub ticks : reading.due ≡ total length_of runs
  pub short : reading.due ≤ 100000000
