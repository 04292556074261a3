-- The pending jobs as entries, in any order.
use Rattle.std.specs.Prelude.{◌≡◌, ℕ, ◌+◌, ◌-◌, ◌^◌, ◌≤◌, Bool, true, false, ◌&&◌, ◌==◌, nat_le, min, Some, List, cond, length, find}
use Rattle.std.specs.List.{list_any, list_all}
use Rattle.mc_task.specs.declared.task.JobId.{JobId}
use Rattle.mc_task.specs.declared.task.Task.{Task}
use Rattle.mc_model.specs.Sums.{total}
use Rattle.trace_judge.specs.declared.late_jobs.LateJob.{LateJob}
use Rattle.trace_judge.specs.declared.pending_queues.Pending.{Pending}
use Rattle.trace_judge.specs.declared.pending_queues.Rank.{Rank}
use Rattle.trace_judge.specs.declared.pending_queues.Standing.{Standing}
use Rattle.trace_judge.specs.declared.pending_queues.Standing.TheVariants.{NotPending, NotLeast, Least}

-- a pending job with its rank
abbrev pub Entry : Type 0
Entry = Rank × Pending

-- the entries that are kept, and of how many tasks there may be some
pub record PendingEntries : Type 0 where
  pub tasks : ℕ
  pub entries : List Entry

-- there may be entries of task number k
abbrev pub HasQueue : PendingEntries → ℕ → Type 0
HasQueue h k = (1 ≤ k) × (k ≤ h.tasks)

-- there may be entries of each task of the set, and of no other
abbrev pub HasQueues : PendingEntries → List Task → Type 0
HasQueues h set = h.tasks ≡ length set

-- the entry is the job's
abbrev pub is_of : JobId → Entry → Bool
is_of j e = (j.task.0 == e.0.job.task.0) && (j.count == e.0.job.count)

-- how many entries are of task number k
abbrev pub entries_of : ℕ → List Entry → ℕ
entries_of k es = total (λ e. cond (e.0.job.task.0 == k) 1 0) es

-- `more` has the entries of es and e
abbrev pub IsMore : List Entry → Entry → List Entry → Type 0
IsMore more e es = (f : Entry → ℕ) → total f more ≡ f e + total f es

-- the job, as a late one
abbrev pub late_job : JobId → Pending → LateJob
late_job j p = record { rows_before = p.rows_before; job = j }

-- the job of the entry, as a late one
abbrev pub late_job_of : Entry → LateJob
late_job_of e = late_job e.0.job e.1

-- a pending job with n more ticks used, at most 2^64 - 1 of them
abbrev pub ticked : ℕ → Pending → Pending
ticked n p = record { release = p.release; used = min (p.used + n) (2 ^ 64 - 1); rows_before = p.rows_before }

-- the entry whose job has n more ticks used
abbrev pub spent_entry : ℕ → Entry → Entry
spent_entry n e = (e.0, ticked n e.1)

-- the job has an entry
abbrev pub pending_in : List Entry → JobId → Bool
pending_in es j = list_any (is_of j) es

-- where the job stands among the entries: it has no entry, or some entry has a lesser key than the job's, or no entry has
abbrev pub Stands : List Entry → JobId → Standing → Type 0
Stands es j NotPending = pending_in es j ≡ false
Stands es j NotLeast =
    (e : Entry) × (find (is_of j) es ≡ Some e) × (list_all (λ o. nat_le e.0.key o.0.key) es ≡ false)
Stands es j (Least pending) =
    (key : ℕ) × (find (is_of j) es ≡ Some (record { key = key; job = j }, pending))
    × (list_all (λ o. nat_le key o.0.key) es ≡ true)
