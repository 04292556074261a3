-- The text of a report on a trace: numbers of each task, and their sums. The newest row stands first.
use Rattle.std.specs.Prelude.{◌≡◌, ℕ, ◌+◌, ◌-◌, ◌==◌, max, Bool, true, false, not, ◌&&◌, cond, List, [], ◌∷◌, ◌++◌, length, filter, map, codes, decimal}
use Rattle.std.specs.List.{concat}
use Rattle.mc_task.specs.declared.task.Rule.{Rule}
use Rattle.mc_task.specs.declared.task.Task.{Task}
use Rattle.mc_task.specs.declared.task.JobId.{JobId}
use Rattle.mc_task.specs.TaskSet.{task_at}
use Rattle.mc_model.specs.TaskNumbers.{is_high_in}
use Rattle.mc_model.specs.Rows.{same_job, ticks, releases}
use Rattle.mc_model.specs.Mode.{is_over}
use Rattle.mc_model.specs.Pending.{KeptRelease, released, is_end, ended, over_since, pending}
use Rattle.mc_model.specs.Legal.{same_how, Legal}
use Rattle.mc_model.specs.declared.row.How.{How}
use Rattle.mc_model.specs.declared.row.How.TheVariants.{Done, Stop}
use Rattle.mc_model.specs.declared.row.Row.{Row}
use Rattle.mc_model.specs.declared.row.Row.TheVariants.{Release, Tick, Idle}

-- how many elements of the list pass the test
abbrev pub how_many : {X : Type 0} → (X → Bool) → List X → ℕ
how_many p xs = length (filter p xs)

-- whether the job is a kept job of task number k
abbrev pub is_of : ℕ → KeptRelease → Bool
is_of k i = i.job.task.0 == k

-- whether the row is a dropped release of task number k
abbrev pub is_drop_of : ℕ → Row → Bool
is_drop_of k (Release j kept) = (j.task.0 == k) && not kept
is_drop_of k (Tick j how) = false
is_drop_of k Idle = false

-- whether the row is a tick of task number k
abbrev pub is_tick_of : ℕ → Row → Bool
is_tick_of k (Release j kept) = false
is_tick_of k (Tick j how) = j.task.0 == k
is_tick_of k Idle = false

-- whether the row is a tick of task number k with this outcome
abbrev pub is_how_of : ℕ → How → Row → Bool
is_how_of k how (Release j kept) = false
is_how_of k how (Tick j h) = (j.task.0 == k) && same_how h how
is_how_of k how Idle = false

-- whether the row is a tick of any task
abbrev pub is_tick : Row → Bool
is_tick (Release j kept) = false
is_tick (Tick j how) = true
is_tick Idle = false

-- whether the row is an Idle row
abbrev pub is_idle : Row → Bool
is_idle (Release j kept) = false
is_idle (Tick j how) = false
is_idle Idle = true

-- whether the row is an Over row
abbrev pub is_switch : Row → Bool
is_switch (Release j kept) = false
is_switch (Tick j how) = is_over how
is_switch Idle = false

-- whether the row is the first Over row after the job's Release row: the row is an Over row, and the rows
-- before it have none since the release
abbrev pub is_first_over : Row → List Row → JobId → Bool
is_first_over row g j = over_since (row ∷ g) j && not (over_since g j)

-- the rows before the first Over row after the job's Release row
abbrev pub before_over : List Row → JobId → List Row
before_over [] j = []
before_over (row ∷ g) j = cond (is_first_over row g j) g (before_over g j)

-- whether a low task's job was discarded: there is an Over row after its Release row, and no Done or Stop row
-- of the job before the first such row
abbrev pub is_discarded : List Task → List Row → KeptRelease → Bool
is_discarded set h i =
    not (is_high_in (task_at set i.job.task.0))
    && (over_since h i.job && not (ended (before_over h i.job) i.job))

-- the number of the tick at which the job was done or stopped
abbrev pub end_tick : List Row → JobId → ℕ
end_tick [] j = 0
end_tick (Release i kept ∷ g) j = end_tick g j
end_tick (Tick i how ∷ g) j = cond (is_end how && same_job i j) (ticks g) (end_tick g j)
end_tick (Idle ∷ g) j = end_tick g j

-- the response time of a job: from its release to the end of its last tick, in ticks
abbrev pub response : List Row → KeptRelease → ℕ
response h i = end_tick h i.job + 1 - i.release

-- the response times of the jobs of task number k that ended
abbrev pub responses : List Row → ℕ → List ℕ
responses h k = map (response h) (filter (λ i. is_of k i && ended h i.job) (released h))

-- the greatest number of a list; 0 if it is empty
abbrev pub greatest : List ℕ → ℕ
greatest [] = 0
greatest (n ∷ ns) = max n (greatest ns)

-- the counts of jobs
pub record JobCounts : Type 0 where
  pub released : ℕ
  pub kept : ℕ
  pub dropped : ℕ
  pub discarded : ℕ
  pub done : ℕ
  pub stopped : ℕ

-- the counts of the jobs of task number k
abbrev pub counts_of : List Task → List Row → ℕ → JobCounts
counts_of set h k = record {
  released = releases h k;
  kept = how_many (is_of k) (released h);
  dropped = how_many (is_drop_of k) h;
  discarded = how_many (λ i. is_of k i && is_discarded set h i) (released h);
  done = how_many (is_how_of k Done) h;
  stopped = how_many (is_how_of k Stop) h;
}

-- the sum of two counts
abbrev pub plus : JobCounts → JobCounts → JobCounts
plus a b = record {
  released = a.released + b.released;
  kept = a.kept + b.kept;
  dropped = a.dropped + b.dropped;
  discarded = a.discarded + b.discarded;
  done = a.done + b.done;
  stopped = a.stopped + b.stopped;
}

-- law: each kept job of a legal trace was done, stopped or discarded, or is pending
abbrev pub CountsAddUp : Type 0
CountsAddUp =
    (set : List Task) (rule : Rule) (h : List Row) (k : ℕ) → Legal set rule h
    → (counts_of set h k).kept ≡ (counts_of set h k).done + (counts_of set h k).stopped
    + (counts_of set h k).discarded + how_many (is_of k) (pending set h)

-- the counts, each after its word
unfoldable pub counts_text : JobCounts → List ℕ
counts_text c =
    concat (
    codes "released " ∷ decimal c.released
    ∷ codes " kept " ∷ decimal c.kept
    ∷ codes " dropped " ∷ decimal c.dropped
    ∷ codes " discarded " ∷ decimal c.discarded
    ∷ codes " done " ∷ decimal c.done
    ∷ codes " stopped " ∷ decimal c.stopped ∷ [])

-- the greatest response time of task number k; a dash if none of its jobs was done or stopped
abbrev pub response_text : List Task → List Row → ℕ → List ℕ
response_text set h k =
    cond ((counts_of set h k).done + (counts_of set h k).stopped == 0) (codes "-")
    (decimal (greatest (responses h k)))

-- the line of task number k, whose name is given
unfoldable pub report_line : List Task → List Row → ℕ → List ℕ → List ℕ
report_line set h k name =
    concat (
    codes "task " ∷ name ∷ codes " " ∷ counts_text (counts_of set h k)
    ∷ codes " ticks " ∷ decimal (how_many (is_tick_of k) h)
    ∷ codes " response " ∷ response_text set h k ∷ codes "\n" ∷ [])

-- the lines of these tasks, the first of which has number k
abbrev pub report_lines : List Task → List Row → ℕ → List Task → List ℕ
report_lines set h k [] = []
report_lines set h k (t ∷ ts) = report_line set h k t.name ++ report_lines set h (k + 1) ts

-- the report of a set's trace
unfoldable pub report_text : List Task → List Row → List ℕ
report_text set h =
    report_lines set h 1 set
    ++ concat (codes "idle " ∷ decimal (how_many is_idle h) ∷ codes "\nswitches "
    ∷ decimal (how_many is_switch h) ∷ codes "\n" ∷ [])

-- the sums of the counts of these tasks, the first of which has number k
abbrev pub sum_counts : List Task → List Row → ℕ → List Task → JobCounts
sum_counts set h k [] = record { released = 0; kept = 0; dropped = 0; discarded = 0; done = 0; stopped = 0 }
sum_counts set h k (t ∷ ts) = plus (counts_of set h k) (sum_counts set h (k + 1) ts)

-- the two lines of the sums over a set's trace
unfoldable pub summary_text : List Task → List Row → List ℕ
summary_text set h =
    concat (
    counts_text (sum_counts set h 1 set)
    ∷ codes "\nticks " ∷ decimal (how_many is_tick h)
    ∷ codes " idle " ∷ decimal (how_many is_idle h)
    ∷ codes " switches " ∷ decimal (how_many is_switch h) ∷ codes "\n" ∷ [])
