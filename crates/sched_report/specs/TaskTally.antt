-- The tally of one task, and what a row adds to it. The newest row stands first.
use Rattle.std.specs.Prelude.{ℕ, ◌+◌, ◌-◌, ◌<◌, ◌^◌, max, Bool, cond, List, Option, None, Some}
use Rattle.mc_task.specs.declared.task.Level.{Level}
use Rattle.mc_task.specs.declared.task.Level.TheVariants.{Low}
use Rattle.mc_task.specs.declared.task.Task.{Task}
use Rattle.mc_task.specs.TaskSet.{task_at}
use Rattle.mc_task.specs.Kinds.{is_high}
use Rattle.mc_model.specs.Legal.{same_how}
use Rattle.sched_report.specs.ReportText.{counts_of, greatest, how_many, is_tick_of, responses}
use Rattle.mc_model.specs.declared.row.How.{How}
use Rattle.mc_model.specs.declared.row.How.TheVariants.{Done, Stop}
use Rattle.mc_model.specs.declared.row.Row.{Row}
use Rattle.sched_report.specs.declared.task_tally.TaskTally.{TaskTally}

-- the level of a task; low if there is no task
abbrev pub level_in : Option Task → Level
level_in None = Low
level_in (Some t) = t.level

-- the tally of task number k in these rows
abbrev pub tally_of : List Task → List Row → ℕ → TaskTally
tally_of set h k = record {
  level = level_in (task_at set k);
  released = (counts_of set h k).released;
  kept = (counts_of set h k).kept;
  dropped = (counts_of set h k).dropped;
  discarded = (counts_of set h k).discarded;
  done = (counts_of set h k).done;
  stopped = (counts_of set h k).stopped;
  ticks = how_many (is_tick_of k) h;
  response = greatest (responses h k);
}

-- the counters of the task have capacity for one more run
pub record IsSmall (t : TaskTally) : Type 0 where
  pub released : t.released < 2 ^ 24
  pub kept : t.kept < 2 ^ 24
  pub dropped : t.dropped < 2 ^ 24
  pub discarded : t.discarded < 2 ^ 24
  pub done : t.done < 2 ^ 24
  pub stopped : t.stopped < 2 ^ 24
  pub ticks : t.ticks < 2 ^ 31

-- the tally with one more release
abbrev pub with_release : Bool → TaskTally → TaskTally
with_release kept t =
    record t { released = t.released + 1; kept = t.kept + cond kept 1 0; dropped = t.dropped + cond kept 0 1 }

-- the tally with one more tick
abbrev pub with_tick : How → TaskTally → TaskTally
with_tick how t = record t {
  ticks = t.ticks + 1;
  done = t.done + cond (same_how how Done) 1 0;
  stopped = t.stopped + cond (same_how how Stop) 1 0;
}

-- the tally with n more ticks after which the job goes on
abbrev pub with_more : ℕ → TaskTally → TaskTally
with_more n t = record t { ticks = t.ticks + n }

-- the tally with one more response time
abbrev pub with_response : ℕ → TaskTally → TaskTally
with_response response t = record t { response = max t.response response }

-- the tally after an overrun: each kept job of a low task that has not ended is discarded
abbrev pub with_switch : TaskTally → TaskTally
with_switch t = record t { discarded = cond (is_high t.level) t.discarded (t.kept - t.done - t.stopped) }
