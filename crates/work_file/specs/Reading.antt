-- What holds of the rows that are read so far.
use Rattle.std.specs.Prelude.{◌≤◌, List, length}
use Rattle.mc_task.specs.declared.task.Task.{Task}
use Rattle.mc_model.specs.Work.{IsWork}
use Rattle.mc_model.specs.declared.work.WorkRow.{WorkRow}
use Rattle.work_file.specs.Tracks.{Tracks}
use Rattle.work_file.specs.declared.next.NextReleases.{NextReleases}

-- the rows are a list of work, and these are the next releases after them
pub record AreRead (set : List Task) (rows : List WorkRow) (next : NextReleases) : Type 0 where
  pub few : length rows ≤ 1000000
  pub tracks : Tracks set rows next
  pub work : IsWork set rows
