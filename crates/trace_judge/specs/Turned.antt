-- The jobs that became late since a boundary. The newest row stands first.
use Rattle.std.specs.Prelude.{◌≡◌, ℕ, ◌+◌, Bool, not, ◌&&◌, ◌||◌, ◌==◌, List, ◌++◌, filter, map, nat_le, nat_lt}
use Rattle.std.specs.List.Sorted.{IsSortedBy}
use Rattle.mc_task.specs.declared.task.Task.{Task}
use Rattle.mc_task.specs.declared.task.JobId.{JobId}
use Rattle.mc_model.specs.declared.row.Row.{Row}
use Rattle.mc_model.specs.declared.run.Run.{Run}
use Rattle.mc_model.specs.Rows.{ticks}
use Rattle.mc_model.specs.Runs.{rows_of}
use Rattle.mc_model.specs.Pending.{KeptRelease, is_still_pending}
use Rattle.mc_model.specs.Late.{deadline, late}
use Rattle.mc_model.specs.Sums.{total}
use Rattle.trace_judge.specs.declared.turned.Turned.{Turned}
use Rattle.trace_judge.specs.Placed.{Placed, placed}
use Rattle.trace_judge.specs.Entries.{Entry}
use Rattle.trace_judge.specs.Quiet.{deadline_at}
use Rattle.trace_judge.specs.Switch.{is_due_entry}

-- the job's deadline has come by boundary now, and had not come at boundary since
abbrev pub is_turned : List Task → ℕ → ℕ → KeptRelease → Bool
is_turned set since now i = nat_le (deadline set i) now && not (nat_le (deadline set i) since)

-- the pending jobs, each with the number of rows before its release
abbrev pub pending_placed : List Task → List Row → List Placed
pending_placed set h = filter (λ x. is_still_pending set h x.kept) (placed h)

-- the pending job with its deadline
abbrev pub turned_job : List Task → Placed → Turned
turned_job set x = record { job = x.kept.job; deadline = deadline set x.kept; rows_before = x.rows_before }

-- the list has the pending jobs whose deadlines have come since that boundary, each of them once, with its deadline and the
-- number of rows before its release: every sum of weights over the list is the sum over these jobs
abbrev pub AreTurned : List Task → List Row → ℕ → List Turned → Type 0
AreTurned set h since ts = (f : Turned → ℕ) → total f ts
    ≡ total f (map (turned_job set) (filter (λ x. is_turned set since (ticks h) x.kept) (pending_placed set h)))

-- job a has the earlier deadline of the two, or both have one deadline and a was released first
abbrev pub comes_first : Turned → Turned → Bool
comes_first a b =
    nat_lt a.deadline b.deadline || ((a.deadline == b.deadline) && nat_lt a.rows_before b.rows_before)

-- the jobs stand in the order of their deadlines, and those with one deadline in the order of their releases
abbrev pub IsInOrder : List Turned → Type 0
IsInOrder ts = IsSortedBy comes_first ts

-- the late jobs after the run are those that were late before the run and those of the list
abbrev pub AddLate : List Task → Run → List Row → List Turned → Type 0
AddLate set run h ts = (f : JobId → ℕ)
    → total f (late set (rows_of run ++ h)) ≡ total f (late set h) + total (λ (t : Turned). f t.job) ts

-- the deadline of the entry's job has come by boundary now, and had not come at boundary since
abbrev pub is_turned_entry : List Task → ℕ → ℕ → Entry → Bool
is_turned_entry set since now e = is_due_entry set now e && not (is_due_entry set since e)

-- the job of the entry, with its deadline
abbrev pub turned_entry : List Task → Entry → Turned
turned_entry set e = record {
  job = e.0.job;
  deadline = deadline_at set e;
  rows_before = e.1.rows_before;
}

-- the jobs of the entries whose deadlines have come since a boundary
abbrev pub turned_of : List Task → ℕ → ℕ → List Entry → List Turned
turned_of set since now es = map (turned_entry set) (filter (is_turned_entry set since now) es)
