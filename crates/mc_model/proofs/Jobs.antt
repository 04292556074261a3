-- When two jobs, or two pending jobs, are the same, and membership in a list of pending jobs.
use Rattle.std.proofs.Common.{◌≡◌, ℕ, Bool, true, false, ◌&&◌, ◌||◌, List, [], ◌∷◌, cond, filter, ◌==◌, refl, sym, ap₂, subst, arith, eqb-true}
use Rattle.std.specs.List.{list_any}
use Rattle.std.proofs.lemmas.Bool.Decides.{nat_tests}
use Rattle.mc_task.specs.declared.task.JobId.{JobId}
use Rattle.mc_model.specs.Rows.{same_job}
use Rattle.mc_model.specs.Pending.{KeptRelease}
use Rattle.mc_model.proofs.Booleans.{or_true, eqb-refl}
use Rattle.mc_model.proofs.Lists.{Each}
use Rattle.std.proofs.lemmas.Bool.{and_parts}

-- the same jobs have one task number and one job number
pub same_job_is : (i j : JobId) → same_job i j ≡ true → (i.task.0 ≡ j.task.0) × (i.count ≡ j.count)
same_job_is i j h = grind (arith, nat_tests)

-- a job is the same as itself
pub same_job-refl : (i : JobId) → same_job i i ≡ true
same_job-refl i = grind (arith, nat_tests)

-- jobs that are the same are equal
pub job_eq : (i j : JobId) → same_job i j ≡ true → i ≡ j
job_eq i j h =
    let p = same_job_is i j h in
    ap₂ {C = JobId} (λ (t c : ℕ). record { task = record { 0 = t }; count = c }) p.0 p.1

-- whether two pending jobs are the same job with the same release time
abbrev pub same_live : KeptRelease → KeptRelease → Bool
same_live i j = same_job i.job j.job && (i.release == j.release)

-- whether the list has this pending job
abbrev pub is_in : List KeptRelease → KeptRelease → Bool
is_in [] i = false
is_in (j ∷ js) i = same_live i j || is_in js i

-- a pending job is the same as itself
pub same_live-refl : (x : KeptRelease) → same_live x x ≡ true
same_live-refl x = rw (same_job-refl x.job, eqb-refl x.release) refl

-- pending jobs that are the same are equal
pub live_eq : (i j : KeptRelease) → same_live i j ≡ true → i ≡ j
live_eq i j h =
    let p = and_parts (same_job i.job j.job) (i.release == j.release) h in
    ap₂ {C = KeptRelease} (λ (a : JobId) (r : ℕ). record { job = a; release = r }) (job_eq i.job j.job p.0) (eqb-true _ _ p.1)

-- a property of each pending job of a list is one of a pending job that is in the list
pub each_in : (P : KeptRelease → Type 0) (x : KeptRelease) (xs : List KeptRelease) → is_in xs x ≡ true → Each P xs → P x
each_in P x [] e h = cc
each_in P x (y ∷ ys) e h = go (λ r. each_in P x ys r h.1) (same_live x y) refl
  where
    go : (is_in ys x ≡ true → P x) → (b : Bool) → same_live x y ≡ b → P x
    go ih true m = subst P (sym (live_eq x y m)) h.0
    go ih false m = ih (rw m at e)

-- if a pending job of a list passes a test, the test of any job of the list is true
pub any_in : (p : KeptRelease → Bool) (x : KeptRelease) (xs : List KeptRelease) → is_in xs x ≡ true → p x ≡ true → list_any p xs ≡ true
any_in p x [] e k = cc
any_in p x (y ∷ ys) e k = go (λ r. any_in p x ys r k) (same_live x y) refl
  where
    go : (is_in ys x ≡ true → list_any p ys ≡ true) → (b : Bool) → same_live x y ≡ b → (p y || list_any p ys) ≡ true
    go ih true m = let q : p y ≡ true = subst (λ (z : KeptRelease). p z ≡ true) (live_eq x y m) k in rw q refl
    go ih false m = or_true _ _ (ih (rw m at e))

-- a filter keeps a pending job that passes its test
pub kept_in : (p : KeptRelease → Bool) (x : KeptRelease) (xs : List KeptRelease) → is_in xs x ≡ true → p x ≡ true → is_in (filter p xs) x ≡ true
kept_in p x [] e k = e
kept_in p x (y ∷ ys) e k = go (λ r. kept_in p x ys r k) (same_live x y) refl
  where
    go : (is_in ys x ≡ true → is_in (filter p ys) x ≡ true) → (b : Bool) → same_live x y ≡ b → is_in (cond (p y) (y ∷ filter p ys) (filter p ys)) x ≡ true
    go ih true m =
        let q : p y ≡ true = subst (λ (z : KeptRelease). p z ≡ true) (live_eq x y m) k in
        rw (q, m) refl
    go ih false m =
        let r : is_in (filter p ys) x ≡ true = ih (rw m at e) in
        elim (p y) as (λ b. is_in (cond b (y ∷ filter p ys) (filter p ys)) x ≡ true) [ true ↦ or_true _ _ r | false ↦ r ]

-- a job at the head of a list is in it
pub head_in : (x : KeptRelease) (xs : List KeptRelease) → is_in (x ∷ xs) x ≡ true
head_in x xs = rw (same_live-refl x) refl
