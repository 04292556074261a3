-- The floor of a job of `run`: before its plan is run, and at the plan's end.
use Rattle.std.specs.Prelude.{◌≡◌, ℕ, ◌+◌, ◌≤◌, length}
use Rattle.mc_model.specs.Follows.{Follows}
use Rattle.mode_core.specs.Events.{empty_state}
use Rattle.timetable.specs.declared.plan.Plan.TheVariants.{Rows}
use Rattle.timetable.specs.Floor.{FloorState, opening}
use Rattle.run_commands.specs.declared.run.RunJob.{RunJob}

-- the floor of the job's set and rule with no rows, capacity for each tick and each release, and the job's
-- work for this many ticks as its plan
abbrev pub opening_for : RunJob → ℕ → FloorState
opening_for job ticks =
    opening (empty_state job.set.tasks job.rule (ticks + length job.work)) (Rows job.work ticks)

-- the floor's set is the job's, its rows are the trace that follows from the job's work, and at most
-- 1,000,000 of them are releases; the ticks are at most 1,000,000
pub record IsPlanned (job : RunJob) (ticks : ℕ) (floor : FloorState) : Type 0 where
  pub same_set : floor.core.set ≡ job.set.tasks
  pub follows : Follows job.set.tasks job.rule job.work ticks floor.core.rows
  pub most : ticks ≤ 1000000
  pub few : length floor.core.rows ≤ ticks + 1000000
