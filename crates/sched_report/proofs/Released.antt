-- The kept releases of a legal trace, each of a different job, and which jobs are pending. The newest row
-- stands first.
use Rattle.std.proofs.Common.{◌≡◌, ℕ, ◌≤◌, Bool, true, false, ◌&&◌, List, [], ◌∷◌, cond, refl, sym, ap, subst, ◌∙◌, arith}
use Rattle.mc_task.specs.declared.task.Rule.{Rule}
use Rattle.mc_task.specs.declared.task.Task.{Task}
use Rattle.mc_task.specs.declared.task.JobId.{JobId}
use Rattle.mc_model.specs.declared.row.How.{How}
use Rattle.mc_model.specs.declared.row.Row.{Row}
use Rattle.mc_model.specs.declared.row.Row.TheVariants.{Release, Tick, Idle}
use Rattle.mc_model.specs.Pending.{KeptRelease, released, pending}
use Rattle.mc_model.specs.Rows.{same_job, ticks, releases}
use Rattle.mc_model.specs.Legal.{Legal, is_pending}
use Rattle.sched_report.specs.ReportText.{how_many}
use Rattle.mc_model.proofs.Lists.{Each, Each-map}
use Rattle.mc_model.proofs.Steps.{release_fits, tick_fits}
use Rattle.mc_model.proofs.Jobs.{job_eq}
use Rattle.mc_model.proofs.Bridge.{bridge, released_count, other_job}
use Rattle.sched_report.proofs.HowMany.{one, how_many-cons, how_many_none}

-- no kept release is of the job that is released next
pub none_of_next : (set : List Task) (rule : Rule) (j : JobId) (kept : Bool) (g : List Row) → Legal set rule (Release j kept ∷ g) → Each (λ x. same_job j x.job ≡ false) (released g)
none_of_next set rule j kept g l =
    let b = (bridge set rule (Release j kept ∷ g) l).legal in
    let c = (release_fits set rule j kept g b.1).count in
    Each-map {P = λ x. x.job.count ≤ releases g x.job.task.0} (λ x k. other_job g j x.job c k) (released g) (released_count set rule g b.2)

-- at most one kept release is of a job
pub once : (set : List Task) (rule : Rule) (h : List Row) (j : JobId) → Legal set rule h → how_many (λ x. same_job j x.job) (released h) ≤ 1
once set rule [] j l = omega arith
once set rule (Release i true ∷ g) j l = go (same_job j i) refl (once set rule g j l.2)
  where
    rest : (j ≡ i) → how_many (λ x. same_job j x.job) (released g) ≡ 0
    rest e = how_many_none (λ x. same_job j x.job) (released g) (subst (λ k. Each (λ x. same_job k x.job ≡ false) (released g)) (sym e) (none_of_next set rule i true g l))

    go : (b : Bool) → same_job j i ≡ b → how_many (λ x. same_job j x.job) (released g) ≤ 1 → how_many (λ x. same_job j x.job) (released (Release i true ∷ g)) ≤ 1
    go true m ih = omega (arith, ap one m, rest (job_eq j i m), how_many-cons (λ (x : KeptRelease). same_job j x.job) (record { job = i; release = ticks g }) (released g))
    go false m ih = omega (arith, ap one m, ih, how_many-cons (λ (x : KeptRelease). same_job j x.job) (record { job = i; release = ticks g }) (released g))
once set rule (row ∷ g) j l = once set rule g j l.2

-- the job's release time; 0 where it has none
abbrev pub release_of : List Row → JobId → ℕ
release_of [] j = 0
release_of (Release i kept ∷ g) j = cond (kept && same_job j i) (ticks g) (release_of g j)
release_of (Tick i how ∷ g) j = release_of g j
release_of (Idle ∷ g) j = release_of g j

-- a job's release time is that of its kept release
pub release_is : (set : List Task) (rule : Rule) (h : List Row) (j : JobId) → Legal set rule h → Each (λ x. same_job j x.job ≡ true → x.release ≡ release_of h j) (released h)
release_is set rule [] j l = tt
release_is set rule (Release i true ∷ g) j l = (λ m. rw m refl, go (same_job j i) refl (release_is set rule g j l.2))
  where
    go : (b : Bool) → same_job j i ≡ b → Each (λ x. same_job j x.job ≡ true → x.release ≡ release_of g j) (released g)
        → Each (λ x. same_job j x.job ≡ true → x.release ≡ release_of (Release i true ∷ g) j) (released g)
    go false m ih = rw m ih
    go true m ih =
        Each-map {P = λ x. same_job i x.job ≡ false} (λ x n e. absurd (let f : same_job j x.job ≡ false = subst (λ k. same_job k x.job ≡ false) (sym (job_eq j i m)) n in cc (e, f))) (released g) (none_of_next set rule i true g l)
release_is set rule (row ∷ g) j l = release_is set rule g j l.2

-- the pending jobs after a release
pub pending-release : (set : List Task) (rule : Rule) (j : JobId) (kept : Bool) (g : List Row) → Legal set rule (Release j kept ∷ g)
    → pending set (Release j kept ∷ g) ≡ cond kept (record { job = j; release = ticks g } ∷ pending set g) (pending set g)
pending-release set rule j kept g l =
    let before = (bridge set rule g l.2).same in
    (bridge set rule (Release j kept ∷ g) l).same ∙ ap (λ (xs : List KeptRelease). cond kept (record { job = j; release = ticks g } ∷ xs) xs) (sym before)

-- the job of a tick is pending before it
pub ticks_pending : (set : List Task) (rule : Rule) (j : JobId) (how : How) (g : List Row) → Legal set rule (Tick j how ∷ g) → is_pending (pending set g) j ≡ true
ticks_pending set rule j how g l =
    let b = bridge set rule (Tick j how ∷ g) l in
    subst (λ xs. is_pending xs j ≡ true) (sym (bridge set rule g l.2).same) (tick_fits set rule j how g b.legal.1).live

-- what holds of each pending job at its release time holds of one that is pending
pub at_pending : (P : JobId → ℕ → Type 0) (j : JobId) (r : ℕ) (xs : List KeptRelease) → is_pending xs j ≡ true → Each (λ x. same_job j x.job ≡ true → x.release ≡ r) xs → Each (λ x. P x.job x.release) xs → P j r
at_pending P j r [] e t h = cc
at_pending P j r (x ∷ xs) e t h = go (same_job j x.job) refl (λ f. at_pending P j r xs f t.1 h.1)
  where
    go : (b : Bool) → same_job j x.job ≡ b → (is_pending xs j ≡ true → P j r) → P j r
    go true m ih = subst (P j) (t.0 m) (subst (λ k. P k x.release) (sym (job_eq j x.job m)) h.0)
    go false m ih = ih (rw m at e)
