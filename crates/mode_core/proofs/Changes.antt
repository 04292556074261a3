-- What the slots have after a change.
use Rattle.std.proofs.Common.{◌≡◌, ℕ, ◌+◌, ◌-◌, ◌<◌, ◌≤◌, Bool, true, false, nat_lt, cond, List, Option, Some, None, option_map, length, get_or, refl, sym, ap, ap₂, subst, ◌∙◌, arith, le-ltb, lt-ltb, inl, inr}
use Rattle.std.specs.Prelude.{slice_set}
use Rattle.std.proofs.lemmas.Bool.{cases_eq, cases_lt}
use Rattle.std.proofs.lemmas.Bool.Decides.{nat_tests}
use Rattle.std.proofs.lemmas.List.{get_or-set_same, get_or-set_other, get_or_past}
use Rattle.mc_task.specs.declared.task.Task.{Task}
use Rattle.mc_task.specs.declared.task.JobId.{JobId}
use Rattle.mc_task.specs.TaskSet.{IsIn, task_at}
use Rattle.mc_model.specs.TaskNumbers.{is_high_in}
use Rattle.mode_core.specs.declared.pending_jobs.ReleasedJob.{ReleasedJob}
use Rattle.mode_core.specs.declared.pending.Pending.{Pending}
use Rattle.mode_core.specs.Slots.{Slots, job_at, ticks_at, as_pending, number_at, if_low, ChangesOnly, GoesHigh, NotesDiscarded}
use Rattle.mode_core.proofs.Options.{map-cond, same-cond}

-- a job that begins changes only its task's slot
pub begun :
    (s : Slots) (j : JobId) (r : ℕ) → IsIn s.set j.task.0 → length s.jobs ≡ length s.set → length s.ticks ≡ length s.set →
    ChangesOnly s (record s { jobs = slice_set s.jobs (j.task.0 - 1) (Some (record { count = j.count; release = r })); ticks = slice_set s.ticks (j.task.0 - 1) 0 }) j.task.0 (Some (record { job = j; release = r; used = 0 }))
begun s j r inside rooms lines = record {
  same_set = refl;
  same_rule = refl;
  same_mode = refl;
  this_task =
      let slot = get_or-set_same s.jobs (j.task.0 - 1) (Some (record { count = j.count; release = r })) None (omega (arith, rooms, inside.0, inside.1)) in
      let line = get_or-set_same s.ticks (j.task.0 - 1) 0 0 (omega (arith, lines, inside.0, inside.1)) in
      ap₂ (λ (o : Option ReleasedJob) (n : ℕ). option_map (as_pending j.task.0 n) o) slot line;
  other_tasks = λ i there other.
      let slot = get_or-set_other s.jobs (j.task.0 - 1) (i - 1) (Some (record { count = j.count; release = r })) None (omega (arith, inside.0, there.0, other)) in
      let line = get_or-set_other s.ticks (j.task.0 - 1) (i - 1) 0 0 (omega (arith, inside.0, there.0, other)) in
      ap₂ (λ (o : Option ReleasedJob) (n : ℕ). option_map (as_pending i n) o) slot line;
}

-- a job that ends changes only its task's slot
pub ended : (s : Slots) (k : ℕ) → IsIn s.set k → length s.jobs ≡ length s.set → ChangesOnly s (record s { jobs = slice_set s.jobs (k - 1) None }) k None
ended s k inside rooms = record {
  same_set = refl;
  same_rule = refl;
  same_mode = refl;
  this_task = ap (option_map (as_pending k (ticks_at s k))) (get_or-set_same s.jobs (k - 1) None None (omega (arith, rooms, inside.0, inside.1)));
  other_tasks = λ i there other. ap (option_map (as_pending i (ticks_at s i))) (get_or-set_other s.jobs (k - 1) (i - 1) None None (omega (arith, inside.0, there.0, other)));
}

-- setting the mode high and clearing the slots of the low tasks is the change to high mode
pub switched : (s : Slots) (after : List (Option ReleasedJob)) (numbers : List (Option ℕ)) → ((k : ℕ) → 1 ≤ k → job_at after k ≡ cond (is_high_in (task_at s.set k)) (job_at s.jobs k) None) → GoesHigh s (record s { high = true; jobs = after; discarded = numbers })
switched s after numbers cleared = record {
  same_set = refl;
  same_rule = refl;
  mode = refl;
  each_task = λ i there. ap (option_map (as_pending i (ticks_at s i))) (cleared i there.0) ∙ map-cond (as_pending i (ticks_at s i)) (is_high_in (task_at s.set i)) (job_at s.jobs i);
}

-- the slots of low tasks, cleared one by one

-- the job in slot i once the slots of low tasks below slot n are cleared
abbrev pub cleared : List Task → List (Option ReleasedJob) → ℕ → ℕ → Option ReleasedJob
cleared ts jobs n i = cond (nat_lt i n) (cond (is_high_in (task_at ts (i + 1))) (get_or jobs i None) None) (get_or jobs i None)

-- before the first step no slot is cleared
pub cleared_start : (ts : List Task) (jobs : List (Option ReleasedJob)) (i : ℕ) → get_or jobs i None ≡ cleared ts jobs 0 i
cleared_start ts jobs i = let none : nat_lt i 0 ≡ false = grind (arith, nat_tests) in rw none refl

-- one more step clears slot n if its task is low
pub cleared_more :
    (ts : List Task) (jobs now : List (Option ReleasedJob)) (n : ℕ) (o : Option ReleasedJob) → n < length now → ((i : ℕ) → get_or now i None ≡ cleared ts jobs n i) →
    o ≡ cond (is_high_in (task_at ts (n + 1))) (get_or now n None) None → (i : ℕ) → get_or (slice_set now n o) i None ≡ cleared ts jobs (n + 1) i
cleared_more ts jobs now n o within before e i = elim (cases_eq i n) [
  | inl d ↦
      let old : get_or now n None ≡ get_or jobs n None = rw (le-ltb n n (omega arith)) at (before n) in
      subst (λ (m : ℕ). get_or (slice_set now n o) m None ≡ cleared ts jobs (n + 1) m) (sym d)
      (rw (lt-ltb n (n + 1) (omega arith)) (get_or-set_same now n o None within ∙ (e ∙ ap (λ (x : Option ReleasedJob). cond (is_high_in (task_at ts (n + 1))) x None) old)))
  | inr d ↦
      let same : nat_lt i (n + 1) ≡ nat_lt i n = grind (arith, nat_tests) in
      rw same (get_or-set_other now n i o None d ∙ before i)
]

-- after the last step the slots of all low tasks are cleared
pub cleared_all :
    (ts : List Task) (jobs now : List (Option ReleasedJob)) → length now ≡ length jobs → ((i : ℕ) → get_or now i None ≡ cleared ts jobs (length jobs) i) →
    (k : ℕ) → 1 ≤ k → job_at now k ≡ cond (is_high_in (task_at ts k)) (job_at jobs k) None
cleared_all ts jobs now len at k first = elim (cases_lt (k - 1) (length jobs)) [
  | inl h ↦
      let number : (k - 1) + 1 ≡ k = omega arith in
      subst (λ (n : ℕ). job_at now k ≡ cond (is_high_in (task_at ts n)) (job_at jobs k) None) number (rw (lt-ltb (k - 1) (length jobs) h) at (at (k - 1)))
  | inr h ↦ rw (get_or_past now (k - 1) None (omega arith), get_or_past jobs (k - 1) None h) (sym (same-cond (is_high_in (task_at ts k)) None))
]

-- the numbers of discarded jobs, noted one by one

-- the number that stands for slot i once those below slot n are noted
abbrev pub noted : List Task → List (Option ReleasedJob) → List (Option ℕ) → ℕ → ℕ → Option ℕ
noted ts jobs old n i = cond (nat_lt i n) (if_low ts (i + 1) (get_or jobs i None)) (get_or old i None)

-- before the first step nothing is noted
pub noted_start : (ts : List Task) (jobs : List (Option ReleasedJob)) (old : List (Option ℕ)) (i : ℕ) → get_or old i None ≡ noted ts jobs old 0 i
noted_start ts jobs old i = let none : nat_lt i 0 ≡ false = grind (arith, nat_tests) in rw none refl

-- one more step notes slot n
pub noted_more :
    (ts : List Task) (jobs : List (Option ReleasedJob)) (old now : List (Option ℕ)) (n : ℕ) (o : Option ℕ) → n < length now → ((i : ℕ) → get_or now i None ≡ noted ts jobs old n i) →
    o ≡ if_low ts (n + 1) (get_or jobs n None) → (i : ℕ) → get_or (slice_set now n o) i None ≡ noted ts jobs old (n + 1) i
noted_more ts jobs old now n o within before e i = elim (cases_eq i n) [
  | inl d ↦
      subst (λ (m : ℕ). get_or (slice_set now n o) m None ≡ noted ts jobs old (n + 1) m) (sym d)
      (rw (lt-ltb n (n + 1) (omega arith)) (get_or-set_same now n o None within ∙ e))
  | inr d ↦
      let same : nat_lt i (n + 1) ≡ nat_lt i n = grind (arith, nat_tests) in
      rw same (get_or-set_other now n i o None d ∙ before i)
]

-- of a high task or of no job there is no number
no_number : (ts : List Task) (k : ℕ) → if_low ts k None ≡ None
no_number ts k = same-cond (is_high_in (task_at ts k)) None

-- after the last step each slot is noted
pub noted_all :
    (ts : List Task) (jobs : List (Option ReleasedJob)) (old now : List (Option ℕ)) → length now ≡ length jobs → ((i : ℕ) → get_or now i None ≡ noted ts jobs old (length jobs) i) →
    (k : ℕ) → 1 ≤ k → number_at now k ≡ if_low ts k (job_at jobs k)
noted_all ts jobs old now len at k first = elim (cases_lt (k - 1) (length jobs)) [
  | inl h ↦
      let number : (k - 1) + 1 ≡ k = omega arith in
      subst (λ (n : ℕ). number_at now k ≡ if_low ts n (job_at jobs k)) number (rw (lt-ltb (k - 1) (length jobs) h) at (at (k - 1)))
  | inr h ↦ rw (get_or_past now (k - 1) None (omega arith), get_or_past jobs (k - 1) None h) (sym (no_number ts k))
]

-- the job of task number k by its number, if the task is a low one
low_job : (s : Slots) (k : ℕ) (b : Bool) (o : Option ReleasedJob) →
    option_map (λ n. let j : JobId = record { task = record { 0 = k }; count = n } in j) (cond b None (option_map (λ j. j.count) o)) ≡ cond b None (option_map (λ (p : Pending). p.job) (option_map (as_pending k (ticks_at s k)) o))
low_job s k true o = refl
low_job s k false None = refl
low_job s k false (Some j) = refl

-- with their numbers noted, the jobs that an overrun discards are noted
pub noted_jobs :
    (s : Slots) (numbers : List (Option ℕ)) (jobs : List (Option ReleasedJob)) → ((k : ℕ) → 1 ≤ k → number_at numbers k ≡ if_low s.set k (job_at s.jobs k)) →
    NotesDiscarded s (record s { high = true; jobs = jobs; discarded = numbers }) true
noted_jobs s numbers jobs at k i = ap (option_map (λ n. let j : JobId = record { task = record { 0 = k }; count = n } in j)) (at k i.0) ∙ low_job s k (is_high_in (task_at s.set k)) (job_at s.jobs k)
