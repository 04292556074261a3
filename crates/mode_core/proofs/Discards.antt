-- The jobs that are noted as discarded are those that the latest overrun in the rows discarded.
use Rattle.std.proofs.Common.{◌≡◌, ℕ, zero, suc, cond, List, ◌∷◌, ◌++◌, Option, Some, None, option_map, replicate, refl, sym, ap, subst, ◌∙◌, inl, inr}
use Rattle.std.proofs.lemmas.Bool.{cases_eq}
use Rattle.mc_task.specs.declared.task.Task.{Task}
use Rattle.mc_task.specs.declared.task.JobId.{JobId}
use Rattle.mc_task.specs.TaskSet.{IsIn, task_at}
use Rattle.mc_model.specs.declared.row.How.{How}
use Rattle.mc_model.specs.declared.row.How.TheVariants.{More, Done, Stop, Over}
use Rattle.mc_model.specs.declared.row.Row.{Row}
use Rattle.mc_model.specs.declared.row.Row.TheVariants.{Tick, Idle}
use Rattle.mc_model.specs.TaskNumbers.{is_high_in}
use Rattle.mc_model.specs.Mode.{is_over}
use Rattle.mc_model.specs.Pending.{KeptRelease, pending}
use Rattle.mode_core.specs.declared.pending.Pending.{Pending}
use Rattle.mode_core.specs.Discarded.{discarded}
use Rattle.mode_core.specs.Entries.{entry, job_of}
use Rattle.mode_core.specs.Slots.{Slots, waiting, discarded_at, one_more, ChangesOnly, IsLeft, NotesDiscarded}
use Rattle.mode_core.specs.Representation.{AreDiscarded, IsTally}

-- the job in an entry is its job
entry_job : (h : List Row) (o : Option KeptRelease) → option_map (λ (p : Pending). p.job) (option_map (entry h) o) ≡ option_map (λ (x : KeptRelease). x.job) o
entry_job h None = refl
entry_job h (Some x) = refl

-- one more tick leaves the job as it is
same_job_after : (o : Option Pending) → option_map (λ (p : Pending). p.job) (option_map one_more o) ≡ option_map (λ (p : Pending). p.job) o
same_job_after None = refl
same_job_after (Some p) = refl

-- rows in which nothing is discarded leave the notes as they were
pub noted_still : (s new : Slots) (h g : List Row) → new.set ≡ s.set → new.discarded ≡ s.discarded → ((k : ℕ) → discarded s.set g k ≡ discarded s.set h k) → AreDiscarded h s → AreDiscarded g new
noted_still s new h g es ed same y = λ k i. rw (es, ed) (y k (subst (λ (ts : List Task). IsIn ts k) es i) ∙ sym (same k))

-- ticks after which the job goes on discard nothing
pub more_discards : (set : List Task) (h : List Row) (j : JobId) (n k : ℕ) → discarded set (replicate n (Tick j More) ++ h) k ≡ discarded set h k
more_discards set h j zero k = refl
more_discards set h j (suc n) k = more_discards set h j n k

-- idle ticks discard nothing
pub idle_discards : (set : List Task) (h : List Row) (n k : ℕ) → discarded set (replicate n Idle ++ h) k ≡ discarded set h k
idle_discards set h zero k = refl
idle_discards set h (suc n) k = idle_discards set h n k

-- after a tick the notes have what an overrun discarded
pub noted_tick :
    (s mid new : Slots) (h : List Row) (t : ℕ) (j : JobId) (how : How) → ChangesOnly s mid j.task.0 (option_map one_more (waiting s j.task.0)) → mid.discarded ≡ s.discarded →
    IsLeft mid new j.task.0 how → NotesDiscarded mid new (is_over how) → IsTally s.set s.rule h t s.high (waiting s) → AreDiscarded h s → AreDiscarded (Tick j how ∷ h) new
noted_tick s mid new h t j how c ed leaves notes y before = λ k i. at how leaves notes k i
  where
    -- task number k of the new slots is one of the slots before
    inside : (how : How) → IsLeft mid new j.task.0 how → (k : ℕ) → IsIn new.set k → IsIn s.set k
    inside how leaves k i = subst (λ (ts : List Task). IsIn ts k) (leaves.same_set ∙ c.same_set) i

    -- what was noted before
    still : (how : How) → IsLeft mid new j.task.0 how → (k : ℕ) → IsIn s.set k → discarded_at mid k ≡ discarded new.set h k
    still how leaves k i = rw (leaves.same_set, c.same_set, ed) (before k i)

    -- the pending jobs before the tick
    job_before : (k : ℕ) → IsIn s.set k → option_map (λ (p : Pending). p.job) (waiting mid k) ≡ option_map (λ (x : KeptRelease). x.job) (job_of k (pending s.set h))
    job_before k i =
        elim (cases_eq j.task.0 k) [
          | inl d ↦
              subst (λ (q : ℕ). option_map (λ (p : Pending). p.job) (waiting mid q) ≡ option_map (λ (p : Pending). p.job) (waiting s q)) d
              (ap (option_map (λ (p : Pending). p.job)) c.this_task ∙ same_job_after (waiting s j.task.0))
          | inr d ↦ ap (option_map (λ (p : Pending). p.job)) (c.other_tasks k i (λ q. d (sym q)))
        ]
        ∙ (ap (option_map (λ (p : Pending). p.job)) (y.slots_are k i) ∙ entry_job h (job_of k (pending s.set h)))

    at : (how : How) → IsLeft mid new j.task.0 how → NotesDiscarded mid new (is_over how) → (k : ℕ) → IsIn new.set k → discarded_at new k ≡ discarded new.set (Tick j how ∷ h) k
    at More leaves notes k i = notes k (subst (λ (ts : List Task). IsIn ts k) leaves.same_set i) ∙ still More leaves k (inside More leaves k i)
    at Done leaves notes k i = notes k (subst (λ (ts : List Task). IsIn ts k) leaves.same_set i) ∙ still Done leaves k (inside Done leaves k i)
    at Stop leaves notes k i = notes k (subst (λ (ts : List Task). IsIn ts k) leaves.same_set i) ∙ still Stop leaves k (inside Stop leaves k i)
    at Over leaves notes k i =
        notes k (subst (λ (ts : List Task). IsIn ts k) leaves.same_set i)
        ∙ (rw (leaves.same_set, c.same_set) (ap (λ (o : Option JobId). cond (is_high_in (task_at s.set k)) None o) (job_before k (inside Over leaves k i))))
