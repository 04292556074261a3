-- The pending jobs as the judge keeps them: in a queue for each task.
use Rattle.std.specs.Prelude.{◌≡◌, ℕ, ◌+◌, ◌-◌, ◌^◌, ◌<◌, ◌≤◌, ◌==◌, Bool, true, List, [], ◌∷◌, ◌++◌, Option, cond, length, map, drop, slice_index_or}
use Rattle.std.specs.List.{AllByRecursion}
use Rattle.mc_task.specs.declared.task.Rule.{Rule}
use Rattle.mc_task.specs.declared.task.Task.{Task}
use Rattle.mc_task.specs.TaskSet.{task_at}
use Rattle.mc_model.specs.Key.{key_of}
use Rattle.mc_model.specs.TaskNumbers.{is_high_in}
use Rattle.trace_judge.specs.declared.queue.Queued.{Queued}
use Rattle.trace_judge.specs.Heads.{no_key}
use Rattle.trace_judge.specs.Entries.{Entry, PendingEntries, ticked}

-- the job has this count
abbrev pub has_count : ℕ → Queued → Bool
has_count count q = count == q.count

-- the job with n more ticks used
abbrev pub spent_job : ℕ → Queued → Queued
spent_job n q = record { key = q.key; count = q.count; pending = ticked n q.pending }

-- the key of the first job
abbrev pub head_key : List Queued → ℕ
head_key [] = no_key
head_key (q ∷ qs) = q.key

-- a queue of a task: the keys ascend, and each is less than that of an empty queue
abbrev pub IsQueue : List Queued → Type 0
IsQueue [] = Unit {0}
IsQueue (q ∷ qs) = (q.key < no_key) × AllByRecursion (λ r. q.key ≤ r.key) qs × IsQueue qs

-- the index after the jobs whose keys are not greater
pub record IsPositionFor (qs : List Queued) (key position : ℕ) : Type 0 where
  pub inside : position ≤ length qs
  pub after : (d : Queued) → 1 ≤ position → (slice_index_or qs (position - 1) d).key ≤ key
  pub before : AllByRecursion (λ q. key < q.key) (drop position qs)

-- the entry of a job in the queue of task number k
abbrev pub entry_in : ℕ → Queued → Entry
entry_in k q = (record { key = q.key; job = record { task = record { 0 = k }; count = q.count } }, q.pending)

-- the entries of these queues, the first of which belongs to task number k
abbrev pub entries_from : ℕ → List (List Queued) → List Entry
entries_from k [] = []
entries_from k (q ∷ qs) = map (entry_in k) q ++ entries_from (k + 1) qs

-- what a contract sees of the queues
abbrev pub pending_entries : List (List Queued) → PendingEntries
pending_entries queues = record { tasks = length queues; entries = entries_from 1 queues }

-- the entries of the queues from this index on, without the first `at` of them
abbrev pub remaining_of : List (List Queued) → ℕ → ℕ → List Entry
remaining_of queues next at = drop at (entries_from (next + 1) (drop next queues))

-- a position among the queues: the queue at index `next` has at least `at` entries
pub record IsRemaining (queues : List (List Queued)) (next at : ℕ) : Type 0 where
  pub few : length queues < 2 ^ 32
  pub inside : at ≤ length (slice_index_or queues next [])

-- each list of jobs is a queue, and the keys are those at the heads of the queues
pub record AreQueues (queues : List (List Queued)) (heads : List ℕ) : Type 0 where
  pub some : 1 ≤ length queues
  pub few : length queues < 2 ^ 32
  pub each : AllByRecursion IsQueue queues
  pub heads_are : heads ≡ map head_key queues

-- each job has the key that its task and its release give it in this mode
abbrev pub AreKeyed : Rule → Bool → Option Task → List Queued → Type 0
AreKeyed rule high t qs = AllByRecursion (λ (q : Queued). q.key ≡ key_of rule high t q.pending.release) qs

-- the job with its key of high mode
abbrev pub rekeyed_job : Rule → Option Task → Queued → Queued
rekeyed_job rule t q = record { key = key_of rule true t q.pending.release; count = q.count; pending = q.pending }

-- the queue of task t after an overrun: without the jobs of a low task, and with the keys of high mode for those of a high one
abbrev pub switched_queue : Rule → Option Task → List Queued → List Queued
switched_queue rule t qs = cond (is_high_in t) (map (rekeyed_job rule t) qs) []

-- the queues after an overrun, the first of which belongs to task number k
abbrev pub switched_from : List Task → Rule → ℕ → List (List Queued) → List (List Queued)
switched_from set rule k [] = []
switched_from set rule k (q ∷ qs) = switched_queue rule (task_at set k) q ∷ switched_from set rule (k + 1) qs
