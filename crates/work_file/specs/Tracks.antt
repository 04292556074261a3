-- What the reader keeps of the rows that it has read.
use Rattle.std.specs.Prelude.{◌≡◌, ℕ, ◌+◌, ◌<◌, List, slice_index}
use Rattle.mc_task.specs.declared.task.Task.{Task}
use Rattle.mc_model.specs.declared.work.WorkRow.{WorkRow}
use Rattle.work_file.specs.declared.next.NextReleases.{NextReleases}
use Rattle.work_file.specs.Rows.{next_allowed}

-- for each task its next allowed release after these rows
abbrev pub Tracks : List Task → List WorkRow → NextReleases → Type 0
Tracks set before n = (i : ℕ) → i < 128 → slice_index n.next i ≡ next_allowed set before (i + 1)
