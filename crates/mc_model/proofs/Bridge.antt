-- The model's pending jobs of a legal trace are those that are computed row by row (Fold).
use Rattle.std.proofs.Common.{◌≡◌, ◌+◌, ◌≤◌, Bool, true, false, not, ◌&&◌, ◌||◌, List, [], ◌∷◌, None, cond, filter, refl, sym, ap, ◌∙◌, subst, arith}
use Rattle.mc_task.specs.declared.task.Rule.{Rule}
use Rattle.mc_task.specs.declared.task.Task.{Task}
use Rattle.mc_task.specs.declared.task.JobId.{JobId}
use Rattle.mc_task.specs.TaskSet.{task_at}
use Rattle.mc_model.specs.declared.row.Row.{Row}
use Rattle.mc_model.specs.declared.row.Row.TheVariants.{Release, Tick, Idle}
use Rattle.mc_model.specs.TaskNumbers.{is_high_in}
use Rattle.mc_model.specs.Pending.{released, ended, over_since, is_still_pending, is_end}
use Rattle.mc_model.specs.Rows.{same_job, ticks, used, releases}
use Rattle.mc_model.specs.Mode.{is_over}
use Rattle.mc_model.specs.Legal.{fault_among}
use Rattle.mc_model.proofs.Fold.{stays}
use Rattle.mc_model.proofs.Lists.{Each, Each-map, Each-all, filter_ext, filter-filter}
use Rattle.mc_model.proofs.Steps.{release_fits}
use Rattle.mc_model.proofs.Jobs.{same_job-refl, job_eq}
use Rattle.mc_model.proofs.Counts.{counted, grows, one_more}
use Rattle.mc_model.specs.Legal
use Rattle.mc_model.specs.Pending
use Rattle.mc_model.proofs.Fold
use Rattle.mc_model.specs.declared.row.How.{How}

-- a tick leaves a job pending if it was pending and stays
pub tick_live : (e s n h o v : Bool) → (not ((e && s) || n) && (h || not (o || v))) ≡ ((not n && (h || not v)) && (not (e && s) && (not o || h)))
tick_live e s n h o v = grind arith

-- a job with no tick has not ended
pub not_ended : (g : List Row) (j : JobId) → used g j ≡ 0 → ended g j ≡ false
not_ended [] j u = refl
not_ended (Release i kept ∷ g) j u = not_ended g j u
not_ended (Idle ∷ g) j u = not_ended g j u
not_ended (Tick i how ∷ g) j u = go (not_ended g j) (same_job i j) refl
  where
    both : (e n : Bool) → n ≡ false → ((e && false) || n) ≡ false
    both true n h = h
    both false n h = h

    go : (used g j ≡ 0 → ended g j ≡ false) → (b : Bool) → same_job i j ≡ b → ((is_end how && same_job i j) || ended g j) ≡ false
    go ih true m = absurd (let v : cond true 1 0 + used g j ≡ 0 = rw m at u in omega (arith, v))
    go ih false m = rw m (both (is_end how) (ended g j) (ih (let v : cond false 1 0 + used g j ≡ 0 = rw m at u in omega (arith, v))))

-- each kept release is one of the releases
pub released_count : (set : List Task) (rule : Rule) (h : List Row) → Fold.Legal set rule h → Each (λ x. x.job.count ≤ releases h x.job.task.0) (released h)
released_count set rule [] l = tt
released_count set rule (Release j true ∷ g) l = (one_more j.task.0 j.count (releases g j.task.0) (release_fits set rule j true g l.1).count, Each-map {P = λ x. x.job.count ≤ releases g x.job.task.0} (λ x k. grows _ _ _ k) (released g) (released_count set rule g l.2))
released_count set rule (Release j false ∷ g) l = Each-map {P = λ x. x.job.count ≤ releases g x.job.task.0} (λ x k. grows _ _ _ k) (released g) (released_count set rule g l.2)
released_count set rule (Tick j how ∷ g) l = released_count set rule g l.2
released_count set rule (Idle ∷ g) l = released_count set rule g l.2

-- the next job of a task is none that was released
pub other_job : (g : List Row) (j i : JobId) → j.count ≡ releases g j.task.0 + 1 → i.count ≤ releases g i.task.0 → same_job j i ≡ false
other_job g j i c k = go (same_job j i) refl
  where
    go : (b : Bool) → same_job j i ≡ b → b ≡ false
    go false m = refl
    go true m =
        let e : i.count ≡ releases g i.task.0 + 1 = subst (λ (x : JobId). x.count ≡ releases g x.task.0 + 1) (job_eq j i m) c in
        absurd (omega (arith, e, k))

-- a release leaves the other jobs as they are
pub others : (set : List Task) (rule : Rule) (j : JobId) (kept : Bool) (g : List Row) → Fold.Legal set rule g → j.count ≡ releases g j.task.0 + 1 → filter (is_still_pending set (Release j kept ∷ g)) (released g) ≡ filter (is_still_pending set g) (released g)
others set rule j kept g l c =
    filter_ext (is_still_pending set (Release j kept ∷ g)) (is_still_pending set g) (released g)
    (Each-map {P = λ x. x.job.count ≤ releases g x.job.task.0} (λ x k. let n = other_job g j x.job c k in rw n refl) (released g) (released_count set rule g l))

-- a job that was just released is pending
pub or_not : (h : Bool) → (true && (h || not (not true && false))) ≡ true
or_not true = refl
or_not false = refl

-- a trace that is legal row by row, and whose pending jobs row by row are those of the model
pub record IsBridged (set : List Task) (rule : Rule) (h : List Row) : Type 0 where
  pub legal : Fold.Legal set rule h
  pub same : Pending.pending set h ≡ Fold.pending set h

-- each legal trace is legal row by row, with the same pending jobs
pub bridge : (set : List Task) (rule : Rule) (h : List Row) → Legal.Legal set rule h → IsBridged set rule h
bridge set rule [] l = record { legal = tt; same = refl }
bridge set rule (Idle ∷ g) l =
    let b : IsBridged set rule g = bridge set rule g l.2 in
    record { legal = (l.0, subst (λ xs. fault_among set rule xs Idle g ≡ None) b.same l.1, b.legal); same = b.same }
bridge set rule (Tick j how ∷ g) l =
    let b : IsBridged set rule g = bridge set rule g l.2 in
    record {
      legal = (l.0, subst (λ xs. fault_among set rule xs (Tick j how) g ≡ None) b.same l.1, b.legal);
      same =
          filter_ext (is_still_pending set (Tick j how ∷ g)) (λ x. is_still_pending set g x && stays set j how x) (released g) (Each-all (λ x. tick_live (is_end how) (same_job j x.job) (ended g x.job) (is_high_in (task_at set x.job.task.0)) (is_over how) (over_since g x.job)) (released g))
          ∙ (sym (filter-filter (stays set j how) (is_still_pending set g) (released g)) ∙ ap (filter (stays set j how)) b.same);
    }
bridge set rule (Release j false ∷ g) l =
    let b : IsBridged set rule g = bridge set rule g l.2 in
    let f = subst (λ xs. fault_among set rule xs (Release j false) g ≡ None) b.same l.1 in
    record {
      legal = (l.0, f, b.legal);
      same = others set rule j false g b.legal (release_fits set rule j false g f).count ∙ b.same;
    }
bridge set rule (Release j true ∷ g) l =
    let b : IsBridged set rule g = bridge set rule g l.2 in
    let f = subst (λ xs. fault_among set rule xs (Release j true) g ≡ None) b.same l.1 in
    let c = (release_fits set rule j true g f).count in
    let u : used g j ≡ 0 = (counted set rule g b.legal).fresh j (omega (arith, c)) in
    let lv : is_still_pending set (Release j true ∷ g) (record { job = j; release = ticks g }) ≡ true =
    rw (not_ended g j u, same_job-refl j) (or_not (is_high_in (task_at set j.task.0))) in
    record {
      legal = (l.0, f, b.legal);
      same = rw lv (ap (λ xs. record { job = j; release = ticks g } ∷ xs) (others set rule j true g b.legal c ∙ b.same));
    }

-- a tick leaves exactly those pending jobs that stay
pub pending-tick : (set : List Task) (rule : Rule) (j : JobId) (how : How) (g : List Row) → Legal.Legal set rule (Tick j how ∷ g) → Pending.pending set (Tick j how ∷ g) ≡ filter (stays set j how) (Pending.pending set g)
pending-tick set rule j how g l = (bridge set rule (Tick j how ∷ g) l).same ∙ ap (filter (stays set j how)) (sym (bridge set rule g l.2).same)
