-- What a row does to what is kept: the state before it and after it.
use Rattle.std.specs.Prelude.{◌≡◌, ℕ, ◌+◌, ◌-◌, ◌≤◌, Bool, true, false, not, ◌||◌, ◌==◌, nat_lt, List, [], ◌∷◌, Option, None, slice_set, slice_index_or, cond, replicate}
use Rattle.std.proofs.Math.Bool.{beq}
use Rattle.mc_task.specs.declared.task.Rule.{Rule}
use Rattle.mc_task.specs.declared.task.Task.{Task}
use Rattle.mc_task.specs.declared.task.JobId.{JobId}
use Rattle.mc_model.specs.declared.run.Run.{Run}
use Rattle.mc_model.specs.declared.run.Run.TheVariants as run
use Rattle.mc_model.specs.declared.verdict.Why.{Why}
use Rattle.mc_model.specs.declared.verdict.Why.TheVariants.{TooSoon, WrongCount, WrongKept}
use Rattle.mc_model.specs.TaskNumbers.{period_in, is_high_in}
use Rattle.mc_model.specs.Key.{key_of}
use Rattle.mc_model.specs.Legal.{first_of_parts}
use Rattle.trace_judge.specs.declared.pending_queues.Pending.{Pending}
use Rattle.trace_judge.specs.declared.state.TaskNote.{TaskNote}
use Rattle.trace_judge.specs.declared.state.State.{State}
use Rattle.trace_judge.specs.LateJobs.{noted}
use Rattle.trace_judge.specs.Firsts.{change_first, remove_first}
use Rattle.trace_judge.specs.Entries.{Entry, IsMore, is_of, spent_entry, late_job, entries_of}
use Rattle.trace_judge.specs.Rules.{is_due_at}

-- the note of task number k
abbrev pub note_at : List TaskNote → ℕ → TaskNote
note_at notes k = slice_index_or notes (k - 1) (record { releases = 0; next = 0 })

-- the first part of a release of a job of task t that does not fit, by the task's note
abbrev pub release_why : ℕ → Bool → TaskNote → Option Task → JobId → Bool → Option Why
release_why now high note t j kept =
    first_of_parts (
    (not (nat_lt now note.next), TooSoon)
    ∷ (j.count == note.releases + 1, WrongCount)
    ∷ (beq kept (is_high_in t || not high), WrongKept)
    ∷ []
    )

-- the state before any row, for a set of n tasks
pub record IsNew (count : ℕ) (s : State) : Type 0 where
  pub ticks : s.ticks ≡ 0
  pub rows : s.rows ≡ 0
  pub mode : s.high_mode ≡ false
  pub tasks : s.tasks.items ≡ replicate count (record { releases = 0; next = 0 })
  pub waiting : s.waiting ≡ record { tasks = count; entries = [] }
  pub count_zero : s.late_jobs.count ≡ 0
  pub first : s.late_jobs.first ≡ None

-- the run is a kept release of a task that has two entries already
abbrev pub TakesMemory : Run → State → Type 0
TakesMemory (run.Release j kept) s = (kept ≡ true) × (2 ≤ entries_of j.task.0 s.waiting.entries)
TakesMemory _ s = ⊥

-- the job of this entry is added to the entries if it is kept
abbrev pub Waits : Bool → Entry → List Entry → List Entry → Type 0
Waits true e old new = IsMore new e old
Waits false e old new = new ≡ old

-- a release of a job of task t: the task's note is renewed, and the job is added to the pending ones if it is kept
pub record Releases (rule : Rule) (t : Option Task) (j : JobId) (kept : Bool) (old new : State) : Type 0 where
  pub ticks : new.ticks ≡ old.ticks
  pub rows : new.rows ≡ old.rows + 1
  pub mode : new.high_mode ≡ old.high_mode
  pub tasks : new.tasks.items ≡ slice_set old.tasks.items (j.task.0 - 1)
      (record { releases = j.count; next = old.ticks + period_in t })
  pub queues : new.waiting.tasks ≡ old.waiting.tasks
  pub waiting : Waits kept
      (record { key = key_of rule old.high_mode t old.ticks; job = j }, record { release = old.ticks; used = 0; rows_before = old.rows })
      old.waiting.entries new.waiting.entries
  pub late_jobs : new.late_jobs ≡ old.late_jobs

-- n more ticks and n more rows
pub record Moves (n : ℕ) (old new : State) : Type 0 where
  pub ticks : new.ticks ≡ old.ticks + n
  pub rows : new.rows ≡ old.rows + n
  pub tasks : new.tasks.items ≡ old.tasks.items
  pub queues : new.waiting.tasks ≡ old.waiting.tasks

-- n ticks of the job, after each of which the job goes on
pub record GoesOn (n : ℕ) (j : JobId) (old new : State) : Type 0 where
  pub moves : Moves n old new
  pub mode : new.high_mode ≡ old.high_mode
  pub waiting : new.waiting.entries ≡ change_first (is_of j) (spent_entry n) old.waiting.entries
  pub late_jobs : new.late_jobs ≡ old.late_jobs

-- the last tick of the job of task t: the job is taken out, and is late if its deadline came before this tick
pub record Ends (t : Option Task) (j : JobId) (p : Pending) (old new : State) : Type 0 where
  pub moves : Moves 1 old new
  pub mode : new.high_mode ≡ old.high_mode
  pub waiting : new.waiting.entries ≡ remove_first (is_of j) old.waiting.entries
  pub late_jobs : new.late_jobs ≡ cond (is_due_at t p.release old.ticks) (noted old.late_jobs (late_job j p)) old.late_jobs

-- n idle ticks
pub record Rests (n : ℕ) (old new : State) : Type 0 where
  pub moves : Moves n old new
  pub mode : new.high_mode ≡ false
  pub waiting : new.waiting.entries ≡ old.waiting.entries
  pub late_jobs : new.late_jobs ≡ old.late_jobs
