-- Releases are counted: each pending job was released, and a job that was not released has no tick.
use Rattle.std.proofs.Common.{◌≡◌, ℕ, ◌+◌, ◌<◌, ◌≤◌, Bool, true, false, List, [], ◌∷◌, cond, ◌==◌, refl, sym, subst, arith}
use Rattle.std.proofs.lemmas.Bool.Decides.{nat_tests}
use Rattle.mc_task.specs.declared.task.Rule.{Rule}
use Rattle.mc_task.specs.declared.task.Task.{Task}
use Rattle.mc_task.specs.declared.task.JobId.{JobId}
use Rattle.mc_model.specs.declared.row.How.{How}
use Rattle.mc_model.specs.declared.row.Row.{Row}
use Rattle.mc_model.specs.declared.row.Row.TheVariants.{Release, Tick, Idle}
use Rattle.mc_model.specs.Pending.{KeptRelease}
use Rattle.mc_model.specs.Rows.{same_job, used, releases}
use Rattle.mc_model.specs.Legal.{is_pending}
use Rattle.mc_model.proofs.Fold.{pending, stays, Legal}
use Rattle.mc_model.proofs.Lists.{Each, Each-map, Each-filter}
use Rattle.mc_model.proofs.Steps.{release_fits, tick_fits}
use Rattle.mc_model.proofs.Jobs.{job_eq}

-- each pending job was released, and a job that was not released has no tick
pub record Counted (set : List Task) (g : List Row) : Type 0 where
  pub live : Each (λ x. x.job.count ≤ releases g x.job.task.0) (pending set g)
  pub fresh : (j : JobId) → releases g j.task.0 < j.count → used g j ≡ 0

-- a pending job was released
pending_count : (g : List Row) (j : JobId) (xs : List KeptRelease) → Each (λ x. x.job.count ≤ releases g x.job.task.0) xs → is_pending xs j ≡ true → j.count ≤ releases g j.task.0
pending_count g j [] h e = cc
pending_count g j (x ∷ xs) h e = go (pending_count g j xs h.1) (same_job j x.job) refl
  where
    go : (is_pending xs j ≡ true → j.count ≤ releases g j.task.0) → (b : Bool) → same_job j x.job ≡ b → j.count ≤ releases g j.task.0
    go ih true m = subst (λ (i : JobId). i.count ≤ releases g i.task.0) (sym (job_eq j x.job m)) h.0
    go ih false m = ih (rw m at e)

-- a count grows with a release
pub grows : (b : Bool) (m n : ℕ) → m ≤ n → m ≤ cond b 1 0 + n
grows true m n h = omega arith
grows false m n h = omega arith

-- a number above a count after a release was above it before
pub shrinks : (b : Bool) (m n : ℕ) → cond b 1 0 + n < m → n < m
shrinks true m n h = omega arith
shrinks false m n h = omega arith

-- the number of a task's next job is at most the number of the task's releases once the job is released
pub one_more : (k c n : ℕ) → c ≡ n + 1 → c ≤ cond (k == k) 1 0 + n
one_more k c n h = grind (arith, nat_tests)

-- a tick of a pending job is not a tick of a job that was not released
still_fresh : (set : List Task) (g : List Row) (j : JobId) (how : How) → Counted set g → is_pending (pending set g) j ≡ true → (i : JobId) → releases g i.task.0 < i.count → used (Tick j how ∷ g) i ≡ 0
still_fresh set g j how c e i k = go (same_job j i) refl
  where
    go : (b : Bool) → same_job j i ≡ b → cond b 1 0 + used g i ≡ 0
    go true m =
        let p : j.count ≤ releases g j.task.0 = pending_count g j (pending set g) c.live e in
        let q : i.count ≤ releases g i.task.0 = subst (λ (x : JobId). x.count ≤ releases g x.task.0) (job_eq j i m) p in
        absurd (omega arith)
    go false m = let f : used g i ≡ 0 = c.fresh i k in omega arith

-- after each row of a legal trace the releases are counted
pub counted : (set : List Task) (rule : Rule) (h : List Row) → Legal set rule h → Counted set h
counted set rule [] l = record { live = tt; fresh = λ j k. refl }
counted set rule (Release j true ∷ g) l =
    let ih : Counted set g = counted set rule g l.2 in
    let fits = release_fits set rule j true g l.1 in
    record {
      live = (one_more j.task.0 j.count (releases g j.task.0) fits.count, Each-map {P = λ x. x.job.count ≤ releases g x.job.task.0} (λ x k. grows _ _ _ k) (pending set g) ih.live);
      fresh = λ i k. ih.fresh i (shrinks _ _ _ k);
    }
counted set rule (Release j false ∷ g) l =
    let ih : Counted set g = counted set rule g l.2 in
    record {
      live = Each-map {P = λ x. x.job.count ≤ releases g x.job.task.0} (λ x k. grows _ _ _ k) (pending set g) ih.live;
      fresh = λ i k. ih.fresh i (shrinks _ _ _ k);
    }
counted set rule (Tick j how ∷ g) l =
    let ih : Counted set g = counted set rule g l.2 in
    let fits = tick_fits set rule j how g l.1 in
    record {
      live = Each-filter (λ x. x.job.count ≤ releases g x.job.task.0) (stays set j how) (pending set g) ih.live;
      fresh = still_fresh set g j how ih fits.live;
    }
counted set rule (Idle ∷ g) l =
    let ih : Counted set g = counted set rule g l.2 in
    record { live = ih.live; fresh = ih.fresh }
