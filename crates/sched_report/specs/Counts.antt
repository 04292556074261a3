-- The counts of jobs as the model has them, and the line of a task.
use Rattle.std.specs.Prelude.{ℕ, ◌+◌, ◌≤◌, ◌==◌, cond, List, [], ◌∷◌, codes, decimal}
use Rattle.std.specs.List.{concat}
use Rattle.sched_report.specs.ReportText as model
use Rattle.sched_report.specs.declared.counts.Counts.{Counts}
use Rattle.sched_report.specs.declared.task_tally.TaskTally.{TaskTally}

-- the counts as the model has them
abbrev pub counts_in : Counts → model.JobCounts
counts_in c = record {
  released = c.released;
  kept = c.kept;
  dropped = c.dropped;
  discarded = c.discarded;
  done = c.done;
  stopped = c.stopped;
}

-- the counts in a task's tally, as the model has them
abbrev pub counts_of_tally : TaskTally → model.JobCounts
counts_of_tally t = record {
  released = t.released;
  kept = t.kept;
  dropped = t.dropped;
  discarded = t.discarded;
  done = t.done;
  stopped = t.stopped;
}

-- none of the counts is above n
pub record AreAtMost (n : ℕ) (c : Counts) : Type 0 where
  pub released : c.released ≤ n
  pub kept : c.kept ≤ n
  pub dropped : c.dropped ≤ n
  pub discarded : c.discarded ≤ n
  pub done : c.done ≤ n
  pub stopped : c.stopped ≤ n

-- the words for the greatest response of a task
abbrev pub response_of_tally : TaskTally → List ℕ
response_of_tally t = cond (t.done + t.stopped == 0) (codes "-") (decimal t.response)

-- the line of a task with this name
unfoldable pub tally_line : List ℕ → TaskTally → List ℕ
tally_line name t =
    concat (
    codes "task " ∷ name ∷ codes " " ∷ model.counts_text (counts_of_tally t)
    ∷ codes " ticks " ∷ decimal t.ticks
    ∷ codes " response " ∷ response_of_tally t ∷ codes "\n" ∷ [])

-- the sums of the counts of tallies
abbrev pub sum_tallies : List TaskTally → model.JobCounts
sum_tallies [] = record { released = 0; kept = 0; dropped = 0; discarded = 0; done = 0; stopped = 0 }
sum_tallies (t ∷ ts) = model.plus (counts_of_tally t) (sum_tallies ts)
