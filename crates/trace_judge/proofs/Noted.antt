-- The late jobs, one after the other.
use Rattle.std.proofs.Common.{[], ◌≡◌, ℕ, ◌+◌, ◌≤◌, Bool, true, false, List, ◌∷◌, cond, refl, sym, ap, ◌∙◌, arith, nat_lt, Option, Some, None, subst, ◌-◌, ◌^◌, min}
use Rattle.std.proofs.lemmas.Bool.Decides.{nat_tests}
use Rattle.mc_model.proofs.Booleans.{eqb-refl}
use Rattle.mc_model.proofs.Jobs.{same_job-refl}
use Rattle.mc_model.proofs.Lists.{Each-all}
use Rattle.mc_model.proofs.Sums.{total-mono}
use Rattle.mc_model.specs.Sums.{total, when}
use Rattle.trace_judge.specs.Entries.{Entry, late_job_of}
use Rattle.trace_judge.specs.declared.late_jobs.LateJob.{LateJob}
use Rattle.trace_judge.specs.declared.late_jobs.LateJobs.{LateJobs}
use Rattle.trace_judge.specs.Switch.{noted_each}
use Rattle.trace_judge.specs.LateJobs.{earlier, noted, same_late, IsEarliest, CountsLateJobs}

-- a weighing adds up what single elements weigh
pub record IsSum (weigh : (LateJob → ℕ) → ℕ) : Type 0 where
  pub list : List LateJob
  pub is : (f : LateJob → ℕ) → weigh f ≡ total f list

-- the sum alone decides how many late jobs there are and which is first
pub counts_same : (s : LateJobs) (v w : (LateJob → ℕ) → ℕ) → ((f : LateJob → ℕ) → v f ≡ w f) → CountsLateJobs s v → CountsLateJobs s w
counts_same s v w h c = record { count = c.count ∙ ap (λ n. min n (2 ^ 64 - 1)) (h (λ x. 1)); first = earliest s.first c.first }
  where
    earliest : (o : Option LateJob) → IsEarliest o v → IsEarliest o w
    earliest None e = sym (h (λ x. 1)) ∙ e
    earliest (Some m) e = (subst (λ n. 1 ≤ n) (h (λ x. cond (same_late m x) 1 0)) e.0, sym (h (λ x. cond (nat_lt x.rows_before m.rows_before) 1 0)) ∙ e.1)

-- the count and the first of the late jobs stay right when one more late job is noted
pub counts_note : (s : LateJobs) (w : (LateJob → ℕ) → ℕ) (m : LateJob) → IsSum w → CountsLateJobs s w → CountsLateJobs (noted s m) (λ f. f m + w f)
counts_note s w m sums c = record { count = omega (arith, c.count); first = step s.first c.first }
  where
    le_weigh : (f g : LateJob → ℕ) → ((x : LateJob) → f x ≤ g x) → w f ≤ w g
    le_weigh f g h = omega (arith, sums.is f, sums.is g, total-mono g f sums.list (Each-all h sums.list))

    -- the late job that is noted is the first if none is before it
    first_is : w (λ x. cond (nat_lt x.rows_before m.rows_before) 1 0) ≡ 0 → IsEarliest (Some m) (λ f. f m + w f)
    first_is e =
        let mine : ◌≡◌ {A = ℕ} (cond (same_late m m) 1 0) 1 = rw (eqb-refl m.rows_before, same_job-refl m.job) refl in
        let none : ◌≡◌ {A = ℕ} (cond (nat_lt m.rows_before m.rows_before) 1 0) 0 = grind (arith, nat_tests) in
        (omega (arith, mine), omega (arith, none, e))

    step : (o : Option LateJob) → IsEarliest o w → IsEarliest (earlier o m) (λ f. f m + w f)
    step None e = first_is (omega (arith, le_weigh (λ x. cond (nat_lt x.rows_before m.rows_before) 1 0) (λ x. 1) (λ x. grind arith), e))
    step (Some first) e = choose (nat_lt m.rows_before first.rows_before) refl
      where
        choose : (b : Bool) → nat_lt m.rows_before first.rows_before ≡ b → IsEarliest (cond b (Some m) (Some first)) (λ f. f m + w f)
        choose true h =
            let less : m.rows_before ≤ first.rows_before = grind (arith, nat_tests) in
            let fewer = le_weigh (λ x. cond (nat_lt x.rows_before m.rows_before) 1 0) (λ x. cond (nat_lt x.rows_before first.rows_before) 1 0) (λ x. grind (arith, nat_tests)) in
            first_is (omega (arith, fewer, e.1))
        choose false h =
            let none : ◌≡◌ {A = ℕ} (cond (nat_lt m.rows_before first.rows_before) 1 0) 0 = rw h refl in
            (omega (arith, e.0), omega (arith, none, e.1))

-- a sum over late jobs with one more late job is a sum
sum_more : (w : (LateJob → ℕ) → ℕ) (m : LateJob) → IsSum w → IsSum (λ f. f m + w f)
sum_more w m s = record { list = m ∷ s.list; is = λ f. ap (λ n. f m + n) (s.is f) }

-- the count and the first of the late jobs stay right when each entry that passes a test is noted
pub counts_all : (p : Entry → Bool) (s : LateJobs) (w : (LateJob → ℕ) → ℕ) (es : List Entry) → IsSum w → CountsLateJobs s w → CountsLateJobs (noted_each p s es) (λ f. total (when p (λ e. f (late_job_of e))) es + w f)
counts_all p s w [] sums c = counts_same s w (λ f. 0 + w f) (λ f. omega arith) c
counts_all p s w (e ∷ es) sums c =
    elim (p e) as (λ b. CountsLateJobs (noted_each p (cond b (noted s (late_job_of e)) s) es)
    (λ f. (cond b (f (late_job_of e)) 0 + total (when p (λ e. f (late_job_of e))) es) + w f)) [
      | true ↦
          counts_same _ (λ f. total (when p (λ e. f (late_job_of e))) es + (f (late_job_of e) + w f)) _ (λ f. omega arith)
          (counts_all p (noted s (late_job_of e)) (λ f. f (late_job_of e) + w f) es (sum_more w (late_job_of e) sums) (counts_note s w (late_job_of e) sums c))
      | false ↦ counts_same _ (λ f. total (when p (λ e. f (late_job_of e))) es + w f) _ (λ f. omega arith) (counts_all p s w es sums c)
    ]
