-- How many jobs were late and which was released first, as they are found in any order.
use Rattle.std.specs.Prelude.{◌≡◌, ℕ, ◌+◌, ◌-◌, ◌^◌, ◌≤◌, Bool, ◌&&◌, ◌==◌, Option, Some, None, cond, nat_lt, min}
use Rattle.mc_model.specs.Rows.{same_job}
use Rattle.trace_judge.specs.declared.late_jobs.LateJob.{LateJob}
use Rattle.trace_judge.specs.declared.late_jobs.LateJobs.{LateJobs}

-- the late job that was released first: the one so far, if any, or this one
abbrev pub earlier : Option LateJob → LateJob → Option LateJob
earlier None late = Some late
earlier (Some first) late = cond (nat_lt late.rows_before first.rows_before) (Some late) (Some first)

-- the late jobs with one more, counted up to 2^64 - 1
abbrev pub noted : LateJobs → LateJob → LateJobs
noted s late = record { count = min (s.count + 1) (2 ^ 64 - 1); first = earlier s.first late }

-- whether two late jobs are one job, released in one row
abbrev pub same_late : LateJob → LateJob → Bool
same_late m x = (x.rows_before == m.rows_before) && same_job x.job m.job

-- late jobs are given by their sums: `weigh f` is the sum of `f` over them. The option holds one of these jobs, before
-- which none of them was released; or there is no late job
abbrev pub IsEarliest : Option LateJob → ((LateJob → ℕ) → ℕ) → Type 0
IsEarliest None weigh = weigh (λ x. 1) ≡ 0
IsEarliest (Some m) weigh =
    (1 ≤ weigh (λ x. cond (same_late m x) 1 0)) × (weigh (λ x. cond (nat_lt x.rows_before m.rows_before) 1 0) ≡ 0)

-- the count and the first of the late jobs whose sums are given
pub record CountsLateJobs (s : LateJobs) (weigh : (LateJob → ℕ) → ℕ) : Type 0 where
  pub count : s.count ≡ min (weigh (λ x. 1)) (2 ^ 64 - 1)
  pub first : IsEarliest s.first weigh
