-- The tally of all rows, and what a row changes in it. The newest row stands first.
use Rattle.std.specs.Prelude.{◌≡◌, ℕ, ◌+◌, ◌-◌, ◌<◌, ◌≤◌, ◌^◌, Bool, true, false, All, List, [], ◌∷◌, ◌++◌, Some, None, map, slice_set}
use Rattle.std.specs.List.{AllByRecursion}
use Rattle.mc_task.specs.declared.task.JobId.{JobId}
use Rattle.mc_task.specs.declared.task.Level.{Level}
use Rattle.mc_task.specs.declared.task.Level.TheVariants.{High}
use Rattle.mc_task.specs.declared.task.Task.{Task}
use Rattle.mc_task.specs.TaskSet.{task_at}
use Rattle.mc_model.specs.Rows.{ticks}
use Rattle.mc_model.specs.Pending.{pending}
use Rattle.sched_report.specs.ReportText.{how_many, is_idle, is_switch}
use Rattle.mc_model.specs.declared.row.How.{How}
use Rattle.mc_model.specs.declared.row.How.TheVariants.{Over}
use Rattle.mc_model.specs.declared.row.Row.{Row}
use Rattle.mc_model.specs.declared.run.Run.{Run}
use Rattle.mc_task.specs.declared.task.Rule.{Rule}
use Rattle.mc_model.specs.Legal.{Legal}
use Rattle.mc_model.specs.Runs.{rows_of}
use Rattle.mc_model.specs.declared.row.Row.TheVariants.{Release, Tick, Idle}
use Rattle.sched_report.specs.declared.task_tally.TaskTally.{TaskTally}
use Rattle.sched_report.specs.declared.tally.Tally.{Tally}
use Rattle.sched_report.specs.declared.pending_releases.PendingReleases.{PendingReleases}
use Rattle.sched_report.specs.TaskTally.{level_in, tally_of, with_release, with_tick, with_more, with_response, with_switch, IsSmall}
use Rattle.sched_report.specs.PendingReleases.{release_in, ChangesOnly}

-- a list of f at each number from k on, one for each task
abbrev pub numbered : {X : Type 0} → (ℕ → X) → ℕ → List Task → List X
numbered f k [] = []
numbered f k (t ∷ ts) = f k ∷ numbered f (k + 1) ts

-- the tally counts these rows, and stores the release time of each pending job
pub record Tallies (set : List Task) (h : List Row) (s : Tally) : Type 0 where
  pub tasks : s.tasks.items ≡ numbered (tally_of set h) 1 set
  pub tick : s.tick ≡ ticks h
  pub idle : s.idle ≡ how_many is_idle h
  pub switches : s.switches ≡ how_many is_switch h
  pub waiting : AllByRecursion
      (λ i. release_in s.waiting (level_in (task_at set i.job.task.0)) i.job ≡ Some i.release) (pending set h)

-- the row's task is one of n tasks
abbrev pub IsAmong : ℕ → Row → Type 0
IsAmong n (Release j kept) = (1 ≤ j.task.0) × (j.task.0 ≤ n)
IsAmong n (Tick j how) = (1 ≤ j.task.0) × (j.task.0 ≤ n)
IsAmong n Idle = Unit {0}

-- the counters have capacity for one more run
pub record HasRoom (s : Tally) : Type 0 where
  pub tasks : All IsSmall s.tasks.items
  pub tick : s.tick < 2 ^ 31
  pub idle : s.idle < 2 ^ 31
  pub switches : s.switches < 2 ^ 31

-- no release time changes
abbrev pub Stays : PendingReleases → PendingReleases → Type 0
Stays old new = (l : Level) (j : JobId) → release_in new l j ≡ release_in old l j

-- a kept job's release time is stored; a dropped release changes nothing
abbrev pub Waits : Bool → PendingReleases → PendingReleases → Level → JobId → ℕ → Type 0
Waits true old new level j now = ChangesOnly old new level j (Some now)
Waits false old new level j now = Stays old new

-- the new tally counts a run more than the old one, if its rows are legal after those of the old one
abbrev pub AddsRun : Run → Tally → Tally → Type 0
AddsRun run old new = (set : List Task) (rule : Rule) (g : List Row)
    → Legal set rule (rows_of run ++ g) → Tallies set g old → Tallies set (rows_of run ++ g) new

-- the tally after a release of the job, whose task has tally t
pub record Releases (j : JobId) (kept : Bool) (t : TaskTally) (old new : Tally) : Type 0 where
  pub tasks : new.tasks.items ≡ slice_set old.tasks.items (j.task.0 - 1) (with_release kept t)
  pub waiting : Waits kept old.waiting new.waiting t.level j old.tick
  pub tick : new.tick ≡ old.tick
  pub idle : new.idle ≡ old.idle
  pub switches : new.switches ≡ old.switches

-- the tally after n ticks of the job that leave it more to do
pub record GoesOn (n : ℕ) (j : JobId) (t : TaskTally) (old new : Tally) : Type 0 where
  pub tasks : new.tasks.items ≡ slice_set old.tasks.items (j.task.0 - 1) (with_more n t)
  pub waiting : Stays old.waiting new.waiting
  pub tick : new.tick ≡ old.tick + n
  pub idle : new.idle ≡ old.idle
  pub switches : new.switches ≡ old.switches

-- the tally after the last tick of the job, which was released at r
pub record Ends (j : JobId) (how : How) (t : TaskTally) (r : ℕ) (old new : Tally) : Type 0 where
  pub tasks : new.tasks.items ≡ slice_set old.tasks.items (j.task.0 - 1)
      (with_response (old.tick + 1 - r) (with_tick how t))
  pub waiting : ChangesOnly old.waiting new.waiting t.level j None
  pub tick : new.tick ≡ old.tick + 1
  pub idle : new.idle ≡ old.idle
  pub switches : new.switches ≡ old.switches

-- the tally after a tick of the job that is an overrun
pub record Overruns (j : JobId) (t : TaskTally) (old new : Tally) : Type 0 where
  pub tasks : new.tasks.items ≡ map with_switch (slice_set old.tasks.items (j.task.0 - 1) (with_tick Over t))
  pub waiting : (i : JobId) → release_in new.waiting High i ≡ release_in old.waiting High i
  pub tick : new.tick ≡ old.tick + 1
  pub idle : new.idle ≡ old.idle
  pub switches : new.switches ≡ old.switches + 1

-- the tally after n idle ticks
pub record Idles (n : ℕ) (old new : Tally) : Type 0 where
  pub tasks : new.tasks.items ≡ old.tasks.items
  pub waiting : Stays old.waiting new.waiting
  pub tick : new.tick ≡ old.tick + n
  pub idle : new.idle ≡ old.idle + n
  pub switches : new.switches ≡ old.switches
