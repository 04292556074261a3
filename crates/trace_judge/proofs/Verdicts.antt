-- The verdict at the end. The late job that was released first is the last of the late ones, the newest first.
use Rattle.std.proofs.Common.{[], ◌≡◌, Bool, true, false, List, ◌∷◌, ◌++◌, cond, filter, map, refl, sym, ap, ◌∙◌, arith, ◌<◌, ◌==◌, Option, Some, None, slice_get, length, option_map, reverse, ◌+◌, subst, ◌^◌}
use Rattle.std.specs.List.{AllByRecursion}
use Rattle.std.proofs.lemmas.Bool.Decides.{nat_tests}
use Rattle.std.proofs.lemmas.List.{reverse-append, map-append, length-reverse, length-map}
use Rattle.std.specs.Option.{option_or}
use Rattle.mc_task.specs.declared.task.JobId.{JobId}
use Rattle.mc_task.specs.declared.task.Task.{Task}
use Rattle.mc_task.specs.declared.task.Rule.{Rule}
use Rattle.mc_task.specs.TaskSet.{IsTask}
use Rattle.mc_model.specs.declared.row.Row.{Row}
use Rattle.mc_model.specs.declared.row.Row.TheVariants.{Release}
use Rattle.mc_model.specs.Rows.{same_job, ticks}
use Rattle.mc_model.specs.Pending.{KeptRelease, released}
use Rattle.mc_model.specs.Late.{is_late, late}
use Rattle.mc_model.specs.Sums.{total, when}
use Rattle.mc_model.specs.Legal.{Legal}
use Rattle.mc_model.specs.Holds.{Holds}
use Rattle.mc_model.specs.Verdict.{RowFault, first_unfit, verdict, HasNoLate}
use Rattle.mc_model.specs.declared.verdict.Verdict.TheVariants as verdicts
use Rattle.mc_model.proofs.Lists.{Each, Each-map, Each-filter}
use Rattle.mc_model.proofs.Jobs.{job_eq}
use Rattle.mc_model.proofs.Verdicts.{no_fault}
use Rattle.mc_model.proofs.Sums.{total-filter, total-same, less_filtered, total-one}
use Rattle.demand_law.proofs.Laws.{none_late}
use Rattle.trace_judge.specs.Placed.{Placed, placed, waiting, is_due}
use Rattle.trace_judge.specs.Tracks.{late_job_in, Tracks, entry_of}
use Rattle.trace_judge.specs.declared.late_jobs.LateJob.{LateJob}
use Rattle.trace_judge.specs.LateJobs.{IsEarliest, CountsLateJobs}
use Rattle.trace_judge.specs.Entries.{late_job_of}
use Rattle.trace_judge.specs.declared.state.State.{State}
use Rattle.trace_judge.specs.declared.late_jobs.LateJobs.{LateJobs}
use Rattle.trace_judge.specs.Switch.{noted_each, is_due_entry}
use Rattle.trace_judge.proofs.Same.{filter-map}
use Rattle.trace_judge.proofs.Placed.{released_is, kept_of, placed_le}
use Rattle.trace_judge.proofs.Noted.{counts_same, counts_all}
use Rattle.trace_judge.proofs.LateTotal.{late_total}
use Rattle.trace_judge.proofs.Keeps.{late_sum_of, sums_of}

-- row numbers fall from the newest on
abbrev pub Descends : List Placed → Type 0
Descends [] = Unit {0}
Descends (x ∷ xs) = Each (λ y. y.rows_before < x.rows_before) xs × Descends xs

-- each kept release has fewer rows before it than there are rows
below_length : (h : List Row) → Each (λ x. x.rows_before < length h) (placed h)
below_length [] = tt
below_length (Release j true ∷ g) = (omega arith, Each-map {P = λ (x : Placed). x.rows_before < length g} (λ x k. omega arith) (placed g) (below_length g))
below_length (row ∷ g) = Each-map {P = λ (x : Placed). x.rows_before < length g} (λ x k. omega arith) (placed g) (below_length g)

-- the row numbers of kept releases fall
pub placed_descends : (h : List Row) → Descends (placed h)
placed_descends [] = tt
placed_descends (Release j true ∷ g) = (below_length g, placed_descends g)
placed_descends (row ∷ g) = placed_descends g

-- the row numbers of a part of the kept releases fall
pub filter_descends : (p : Placed → Bool) → (xs : List Placed) → Descends xs → Descends (filter p xs)
filter_descends p [] h = tt
filter_descends p (x ∷ xs) h =
    elim (p x) as (λ b. Descends (cond b (x ∷ filter p xs) (filter p xs)))
    [ true ↦ (Each-filter (λ y. y.rows_before < x.rows_before) p xs h.0, filter_descends p xs h.1) | false ↦ filter_descends p xs h.1 ]

-- the last element
abbrev pub last : {X : Type 0} → List X → Option X
last [] = None
last (x ∷ xs) = option_or (last xs) (Some x)

-- the first element of a list with one more at the end
first_push : {X : Type 0} (xs : List X) (x : X) → slice_get (xs ++ x ∷ []) 0 ≡ option_or (slice_get xs 0) (Some x)
first_push [] x = refl
first_push (y ∷ ys) x = refl

-- the first of a reversed list is the last
pub first-reverse : {X : Type 0} (xs : List X) → slice_get (reverse xs) 0 ≡ last xs
first-reverse [] = refl
first-reverse (x ∷ xs) = ap (λ ys. slice_get ys 0) (reverse-append (x ∷ []) xs) ∙ (first_push (reverse xs) x ∙ ap (λ o. option_or o (Some x)) (first-reverse xs))

-- the earliest of late jobs whose row numbers fall is the last of them
pub last_is : (o : Option LateJob) (xs : List Placed) → Descends xs → IsEarliest o (λ f. total (λ x. f (late_job_in x)) xs) → option_map (λ (m : LateJob). m.job) o ≡ last (map (λ (x : Placed). x.kept.job) xs)
last_is None [] d e = refl
last_is None (x ∷ xs) d e = absurd (omega (arith, e))
last_is (Some m) [] d e = absurd (omega (arith, e.0))
last_is (Some m) (x ∷ []) d e = let same : same_job x.kept.job m.job ≡ true = grind (arith, e.0) in ap Some (sym (job_eq x.kept.job m.job same))
last_is (Some m) (x ∷ y ∷ ys) d e =
    let other : (x.rows_before == m.rows_before) ≡ false = grind (arith, nat_tests, e.1, d.0.0) in
    let some = rw other at e.0 in
    last_is (Some m) (y ∷ ys) d.1 (omega (arith, some), omega (arith, e.1)) ∙ keep (last (map (λ (z : Placed). z.kept.job) ys))
  where
    keep : (o : Option JobId) → option_or o (Some y.kept.job) ≡ option_or (option_or o (Some y.kept.job)) (Some x.kept.job)
    keep o = grind arith

-- a reversed list, mapped
map-reverse : {X Y : Type 0} (f : X → Y) → (xs : List X) → map f (reverse xs) ≡ reverse (map f xs)
map-reverse f [] = refl
map-reverse f (x ∷ xs) =
    ap (map f) (reverse-append (x ∷ []) xs) ∙ (map-append f (reverse xs) (x ∷ [])
    ∙ (ap (λ ys. ys ++ f x ∷ []) (map-reverse f xs) ∙ sym (reverse-append (f x ∷ []) (map f xs))))

-- the jobs of kept releases, without their row numbers
jobs_of : (xs : List Placed) → map (λ (i : KeptRelease). i.job) (map kept_of xs) ≡ map (λ (x : Placed). x.kept.job) xs
jobs_of [] = refl
jobs_of (x ∷ xs) = ap (λ ys. x.kept.job ∷ ys) (jobs_of xs)

-- the late jobs are those of the late kept releases, the oldest first
pub late_is : (set : List Task) (h : List Row) → late set h ≡ reverse (map (λ (x : Placed). x.kept.job) (filter (λ x. is_late set h x.kept) (placed h)))
late_is set h =
    map-reverse (λ (i : KeptRelease). i.job) (filter (is_late set h) (released h))
    ∙ ap reverse (ap (map (λ (i : KeptRelease). i.job)) (ap (filter (is_late set h)) (released_is h) ∙ filter-map (is_late set h) kept_of (placed h))
    ∙ jobs_of (filter (λ x. is_late set h x.kept) (placed h)))

-- what is noted at the end are the late jobs
pub noted_at_end : (set : List Task) (rule : Rule) (h : List Row) (s : State) → Legal set rule h → Tracks set rule h s →
    CountsLateJobs (noted_each (is_due_entry set s.ticks) s.late_jobs s.waiting.entries) (λ f. total (λ x. f (late_job_in x)) (filter (λ x. is_late set h x.kept) (placed h)))
noted_at_end set rule h s l t =
    counts_same (noted_each (is_due_entry set s.ticks) s.late_jobs s.waiting.entries) (λ f. total (when (is_due_entry set s.ticks) (λ e. f (late_job_of e))) s.waiting.entries + late_sum_of set h f) (λ f. total (λ x. f (late_job_in x)) (filter (λ x. is_late set h x.kept) (placed h)))
    (λ f. let due : total (λ x. when (is_due_entry set s.ticks) (λ e. f (late_job_of e)) (entry_of set rule h x)) (waiting set h)
    ≡ total (when (is_due set (ticks h)) (λ x. f (late_job_in x))) (waiting set h) = total-same _ _ (λ x. rw t.ticks refl) (waiting set h) in
    let noted = t.waiting (when (is_due_entry set s.ticks) (λ e. f (late_job_of e))) in
    omega (arith, noted, due, late_total set rule h l (λ x. f (late_job_in x)), total-filter (λ x. f (late_job_in x)) (λ x. is_late set h x.kept) (placed h)))
    (counts_all (is_due_entry set s.ticks) s.late_jobs (late_sum_of set h) s.waiting.entries (sums_of set h) t.late_jobs)

-- the count that is noted is the number of late jobs
pub legal_count : (set : List Task) (h : List Row) (s : LateJobs) → length h < 2 ^ 64 → CountsLateJobs s (λ f. total (λ x. f (late_job_in x)) (filter (λ x. is_late set h x.kept) (placed h))) → s.count ≡ length (late set h)
legal_count set h s room c =
    let ps : List Placed = filter (λ x. is_late set h x.kept) (placed h) in
    let many : length (late set h) ≡ length ps = ap length (late_is set h)
    ∙ (length-reverse (map (λ (x : Placed). x.kept.job) ps) ∙ length-map ps (λ (x : Placed). x.kept.job)) in
    omega (arith, c.count, many, total-one ps, less_filtered (λ (x : Placed). 1) (λ x. is_late set h x.kept) (placed h), total-one (placed h), placed_le h)

-- which job of the late ones is the first
pub legal_first : (set : List Task) (h : List Row) (s : LateJobs) → CountsLateJobs s (λ f. total (λ x. f (late_job_in x)) (filter (λ x. is_late set h x.kept) (placed h))) → option_map (λ (m : LateJob). m.job) s.first ≡ slice_get (late set h) 0
legal_first set h s c =
    let ps : List Placed = filter (λ x. is_late set h x.kept) (placed h) in
    last_is s.first ps (filter_descends (λ x. is_late set h x.kept) (placed h) (placed_descends h)) c.first
    ∙ sym (ap (λ xs. slice_get xs 0) (late_is set h) ∙ first-reverse (map (λ (x : Placed). x.kept.job) ps))

-- the first fault stays the first after more rows
pub fault_stays : (set : List Task) (rule : Rule) (p : RowFault) (xs h : List Row) → first_unfit set rule h ≡ Some p → first_unfit set rule (xs ++ h) ≡ Some p
fault_stays set rule p [] h e = e
fault_stays set rule p (x ∷ xs) h e = rw (fault_stays set rule p xs h e) refl

-- the verdict on a legal trace
pub legal_verdict : (set : List Task) (rule : Rule) (h : List Row) (s : State) → Legal set rule h → Tracks set rule h s → length h < 2 ^ 64 → (late_jobs : LateJobs) → late_jobs ≡ noted_each (is_due_entry set s.ticks) s.late_jobs s.waiting.entries →
    verdicts.Legal late_jobs.count (option_map (λ (m : LateJob). m.job) late_jobs.first) ≡ verdict set rule h
legal_verdict set rule h s l t room late_jobs is =
    let c = subst (λ (x : LateJobs). CountsLateJobs x (λ f. total (λ x. f (late_job_in x)) (filter (λ x. is_late set h x.kept) (placed h)))) (sym is) (noted_at_end set rule h s l t) in
    rw (legal_count set h late_jobs room c, legal_first set h late_jobs c, no_fault set rule h l) refl

-- under a rule that holds, no job of a legal trace is reported as late
pub no_late : (set : List Task) (rule : Rule) (h : List Row) → AllByRecursion IsTask set → Holds set rule → Legal set rule h → HasNoLate (verdict set rule h)
no_late set rule h each holds l = rw (no_fault set rule h l, none_late set rule h each holds l) (refl, refl)
