-- How the pending jobs and the schedule log are represented.
use Rattle.std.specs.Prelude.{◌≡◌, ℕ, ◌≤◌, ◌^◌, Bool, List, map, length, Option, option_map}
use Rattle.mc_task.specs.declared.task.Task.{Task}
use Rattle.mc_task.specs.declared.task.Rule.{Rule}
use Rattle.mc_task.specs.TaskSet.{AreTasks, IsIn}
use Rattle.mc_model.specs.declared.row.Row.{Row}
use Rattle.mc_model.specs.Holds.{Fits, Holds}
use Rattle.mc_model.specs.Legal.{Legal}
use Rattle.mc_model.specs.Rows.{ticks}
use Rattle.mc_model.specs.Mode.{high_mode}
use Rattle.mc_model.specs.Pending.{pending}
use Rattle.budget_ledger.specs.Ledger.{budget}
use Rattle.ready_queue.specs.declared.item.Item.{Item}
use Rattle.ready_queue.specs.Items.{item_of}
use Rattle.mode_core.specs.declared.pending.Pending.{Pending}
use Rattle.mode_core.specs.declared.pending_jobs.ReleasedJob.{ReleasedJob}
use Rattle.mode_core.specs.declared.pending_jobs.PendingJobs.TheInside as pending_jobs
use Rattle.mode_core.specs.declared.schedule_log.ScheduleLog.TheInside.{Inside}
use Rattle.mode_core.specs.Discarded.{discarded}
use Rattle.mode_core.specs.Entries.{entry, item, job_of}
use Rattle.mode_core.specs.Slots.{Slots, job_at, waiting, discarded_at}
use Rattle.mode_core.specs.Written.{Written}

-- the pending jobs in contracts, by their fields
abbrev pub slots_of : pending_jobs.Inside → Slots
slots_of a =
    record { set = a.set.tasks; rule = a.rule; high = a.high; jobs = a.jobs.items; ticks = a.used.ticks; discarded = a.discarded.items }

-- the queue has the pending job of each task, and no other job
abbrev pub AreQueued : List Task → Rule → Bool → List (Option ReleasedJob) → List Item → Type 0
AreQueued set rule high jobs items =
    (k : ℕ) → IsIn set k → item_of items k ≡ option_map (λ j. item set rule high k j.release) (job_at jobs k)

-- each task has a slot, a row of the ledger with its budgets, the number of a discarded job or none, and capacity
-- in the queue, which has the pending jobs
pub record ArePendingJobs (a : pending_jobs.Inside) : Type 0 where
  pub tasks : AreTasks a.set.tasks
  pub fits : Fits a.rule
  pub slots : length a.jobs.items ≡ length a.set.tasks
  pub lines : length a.used.ticks ≡ length a.set.tasks
  pub budgets : a.used.budgets ≡ map budget a.set.tasks
  pub discards : length a.discarded.items ≡ length a.set.tasks
  pub places : a.queue.places ≡ length a.set.tasks
  pub queued : AreQueued a.set.tasks a.rule a.high a.jobs.items a.queue.items

-- the schedule log in contracts, by its fields and the rows that its recorder took
abbrev pub written : {K : Type 0} → List Row → Inside K → Written
written h a = record { set = a.pending_jobs.set; rule = a.pending_jobs.rule; places = a.places; rows = h }

-- the rows are legal, and the clock, the mode and the slots agree with them: the slot of each task has its
-- pending job, with its ticks
pub record IsTally (set : List Task) (rule : Rule) (h : List Row) (clock : ℕ) (high : Bool)
    (slots : ℕ → Option Pending) : Type 0 where
  pub legal : Legal set rule h
  pub clock_is : clock ≡ ticks h
  pub mode_is : high ≡ high_mode rule h
  pub slots_are : (k : ℕ) → IsIn set k → slots k ≡ option_map (entry h) (job_of k (pending set h))

-- the jobs that are noted as discarded are those that the latest overrun in the rows discarded
abbrev pub AreDiscarded : List Row → Slots → Type 0
AreDiscarded h s = (k : ℕ) → IsIn s.set k → discarded_at s k ≡ discarded s.set h k

-- the rule holds for the set, clock, mode, slots and discarded jobs agree with the rows, and the recorder is for
-- this set and rule and has capacity for all rows that will be written
pub record IsScheduleLog {K : Type 0} (h : List Row) (capacity : ℕ) (is_for : List Task → Rule → Type 0) (a : Inside K) : Type 0 where
  pub tasks : AreTasks a.pending_jobs.set
  pub fits : Fits a.pending_jobs.rule
  pub holds : Holds a.pending_jobs.set a.pending_jobs.rule
  pub tally : IsTally a.pending_jobs.set a.pending_jobs.rule h a.ticks a.pending_jobs.high (waiting a.pending_jobs)
  pub discards : AreDiscarded h a.pending_jobs
  pub range : a.places ≤ 2 ^ 62
  pub few : length h ≤ a.places
  pub room : a.places ≤ capacity
  pub recorder : is_for a.pending_jobs.set a.pending_jobs.rule
