-- The job of a task in a list of pending jobs.
use Rattle.std.proofs.Common.{◌≡◌, ℕ, ◌≤◌, Bool, true, false, List, [], ◌∷◌, Option, Some, None, cond, ◌==◌, filter, refl, sym, subst, ap, ◌∙◌, arith, eq-eqb, ne_eqb, inl, inr}
use Rattle.std.proofs.lemmas.Bool.{cases_Bool, cases_eq}
use Rattle.std.proofs.lemmas.Option.{same_Some}
use Rattle.mc_task.specs.declared.task.JobId.{JobId}
use Rattle.mc_model.specs.Pending.{KeptRelease}
use Rattle.mc_model.specs.Rows.{same_job}
use Rattle.mc_model.specs.Legal.{is_pending}
use Rattle.mc_model.proofs.Booleans.{or_true}
use Rattle.mc_model.proofs.Jobs.{same_live, is_in, head_in, live_eq, job_eq}
use Rattle.demand_law.specs.OneLive.{pending_of}
use Rattle.mode_core.specs.Entries.{job_of}

-- the job that is found for task number k is of that task
pub job_of-task : (k : ℕ) (xs : List KeptRelease) (x : KeptRelease) → job_of k xs ≡ Some x → x.job.task.0 ≡ k
job_of-task k [] x e = cc
job_of-task k (y ∷ ys) x e = elim (cases_eq y.job.task.0 k) [ inl m ↦ let q = rw (eq-eqb _ _ m) at e in cc | inr n ↦ job_of-task k ys x (rw (ne_eqb _ _ n) at e) ]

-- the job that is found in a list is one of the list
pub job_of-in : (k : ℕ) (xs : List KeptRelease) (x : KeptRelease) → job_of k xs ≡ Some x → is_in xs x ≡ true
job_of-in k [] x e = cc
job_of-in k (y ∷ ys) x e = elim (cases_eq y.job.task.0 k) [
  | inl m ↦ subst (λ (z : KeptRelease). is_in (y ∷ ys) z ≡ true) (same_Some y x (rw (eq-eqb _ _ m) at e)) (head_in y ys)
  | inr n ↦ or_true _ _ (job_of-in k ys x (rw (ne_eqb _ _ n) at e))
]

-- no job is found if no job of the list is of the task
pub job_of-none : (k : ℕ) (xs : List KeptRelease) → pending_of k xs ≡ 0 → job_of k xs ≡ None
job_of-none k [] e = refl
job_of-none k (y ∷ ys) e = elim (cases_eq y.job.task.0 k) [
  | inl m ↦ absurd (omega (arith, rw (eq-eqb _ _ m) at e))
  | inr n ↦ rw (ne_eqb _ _ n) (job_of-none k ys (omega (arith, rw (ne_eqb _ _ n) at e)))
]

-- a job of the list is counted among the jobs of its task
counted_in : (x : KeptRelease) (xs : List KeptRelease) → is_in xs x ≡ true → 1 ≤ pending_of x.job.task.0 xs
counted_in x [] e = cc
counted_in x (y ∷ ys) e = elim (cases_Bool (same_live x y)) [
  | inl m ↦ rw (eq-eqb y.job.task.0 x.job.task.0 (cc (live_eq x y m))) (omega arith)
  | inr m ↦ omega (arith, counted_in x ys (rw m at e))
]

-- the only job of its task in the list is the one that is found
pub job_of-one : (x : KeptRelease) (xs : List KeptRelease) → is_in xs x ≡ true → pending_of x.job.task.0 xs ≤ 1 → job_of x.job.task.0 xs ≡ Some x
job_of-one x [] e n = cc
job_of-one x (y ∷ ys) e n = elim (cases_Bool (same_live x y)) [
  | inl m ↦ rw (eq-eqb y.job.task.0 x.job.task.0 (cc (live_eq x y m))) (cc (live_eq x y m))
  | inr m ↦ elim (cases_eq y.job.task.0 x.job.task.0) [
    | inl t ↦ absurd (omega (arith, rw (eq-eqb _ _ t) at n, counted_in x ys (rw m at e)))
    | inr t ↦ rw (ne_eqb _ _ t) (job_of-one x ys (rw m at e) (omega (arith, rw (ne_eqb _ _ t) at n)))
  ]
]

-- what a test leaves of a task's job
abbrev pub left : (KeptRelease → Bool) → Option KeptRelease → Option KeptRelease
left p None = None
left p (Some x) = cond (p x) (Some x) None

-- a filter leaves of a task's only job what its test leaves
pub job_of-filter : (k : ℕ) (p : KeptRelease → Bool) (xs : List KeptRelease) → pending_of k xs ≤ 1 → job_of k (filter p xs) ≡ left p (job_of k xs)
job_of-filter k p [] n = refl
job_of-filter k p (x ∷ xs) n = go (job_of-filter k p xs (omega (arith, n))) (p x) (x.job.task.0 == k) refl refl
  where
    go : job_of k (filter p xs) ≡ left p (job_of k xs) → (a b : Bool) → p x ≡ a → (x.job.task.0 == k) ≡ b →
        job_of k (cond (p x) (x ∷ filter p xs) (filter p xs)) ≡ left p (cond (x.job.task.0 == k) (Some x) (job_of k xs))
    go ih true true e m = rw (e, m, e) refl
    go ih false true e m = rw (e, m, e) (ih ∙ ap (left p) (job_of-none k xs (omega (arith, rw m at n))))
    go ih true false e m = rw (e, m) ih
    go ih false false e m = rw (e, m) ih

-- a job that is pending, by the list
pub record IsThere (xs : List KeptRelease) (j : JobId) : Type 0 where
  pub kept : KeptRelease
  pub inside : is_in xs kept ≡ true
  pub job : kept.job ≡ j

-- a job that passes the test for pending jobs is in the list
pub pending_there : (xs : List KeptRelease) (j : JobId) → is_pending xs j ≡ true → IsThere xs j
pending_there [] j e = cc
pending_there (y ∷ ys) j e = elim (cases_Bool (same_job j y.job)) [
  | inl m ↦ record { kept = y; inside = head_in y ys; job = sym (job_eq j y.job m) }
  | inr m ↦ let t = pending_there ys j (rw m at e) in record { kept = t.kept; inside = or_true _ _ t.inside; job = t.job }
]
