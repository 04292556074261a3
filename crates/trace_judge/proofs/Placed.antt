-- The kept releases with their row numbers, and those of them that are pending.
use Rattle.std.proofs.Common.{[], ◌≡◌, ◌+◌, ◌≤◌, Bool, true, false, ◌&&◌, List, ◌∷◌, filter, map, refl, sym, ap, ◌∙◌, arith, length}
use Rattle.mc_task.specs.declared.task.JobId.{JobId}
use Rattle.mc_task.specs.declared.task.Rule.{Rule}
use Rattle.mc_task.specs.declared.task.Task.{Task}
use Rattle.mc_task.specs.TaskSet.{task_at}
use Rattle.mc_model.proofs.Lists.{Each, Each-map, Each-all, filter_ext, filter-filter}
use Rattle.mc_model.specs.declared.row.Row.{Row}
use Rattle.mc_model.specs.declared.row.Row.TheVariants.{Release, Tick, Idle}
use Rattle.mc_model.specs.TaskNumbers.{is_high_in}
use Rattle.mc_model.specs.Rows.{same_job, ticks, used, releases}
use Rattle.mc_model.specs.Mode.{is_over}
use Rattle.mc_model.specs.Pending.{KeptRelease, released, pending, is_still_pending, ended, over_since, is_end}
use Rattle.mc_model.specs.Legal.{Legal}
use Rattle.mc_model.proofs.Jobs.{job_eq, same_job-refl}
use Rattle.mc_model.proofs.Bridge.{IsBridged, bridge, other_job, tick_live, not_ended, or_not}
use Rattle.mc_model.proofs.Steps.{release_fits}
use Rattle.mc_model.proofs.Counts.{counted, grows, one_more}
use Rattle.mc_model.specs.Sums.{total, when}
use Rattle.trace_judge.specs.Placed.{Placed, new_one, placed, waiting, stays}
use Rattle.mc_model.proofs.Fold
use Rattle.mc_model.proofs.Sums.{less_filtered, one}
use Rattle.trace_judge.proofs.Same.{filter-map}

-- each kept release is one of the releases
pub placed_count : (set : List Task) (rule : Rule) (h : List Row) → Fold.Legal set rule h → Each (λ x. x.kept.job.count ≤ releases h x.kept.job.task.0) (placed h)
placed_count set rule [] l = tt
placed_count set rule (Release j true ∷ g) l = (one_more j.task.0 j.count (releases g j.task.0) (release_fits set rule j true g l.1).count, Each-map {P = λ (x : Placed). x.kept.job.count ≤ releases g x.kept.job.task.0} (λ x k. grows _ _ _ k) (placed g) (placed_count set rule g l.2))
placed_count set rule (Release j false ∷ g) l = Each-map {P = λ (x : Placed). x.kept.job.count ≤ releases g x.kept.job.task.0} (λ x k. grows _ _ _ k) (placed g) (placed_count set rule g l.2)
placed_count set rule (row ∷ g) l = placed_count set rule g l.2

-- the job is live
abbrev pub live_in : List Task → List Row → Placed → Bool
live_in set h x = is_still_pending set h x.kept

-- the count of a release that fits
pub release_count : (set : List Task) (rule : Rule) (g : List Row) (j : JobId) (kept : Bool) → Legal set rule (Release j kept ∷ g) → j.count ≡ releases g j.task.0 + 1
release_count set rule g j kept l = let b : IsBridged set rule (Release j kept ∷ g) = bridge set rule (Release j kept ∷ g) l in (release_fits set rule j kept g b.legal.1).count

-- the job of a release that fits has had no tick
pub fresh_used : (set : List Task) (rule : Rule) (g : List Row) (j : JobId) (kept : Bool) → Legal set rule (Release j kept ∷ g) → used g j ≡ 0
fresh_used set rule g j kept l = (counted set rule g (bridge set rule g l.2).legal).fresh j (omega (arith, release_count set rule g j kept l))

-- a release that fits leaves the other jobs as they are
pub others_live : (set : List Task) (rule : Rule) (j : JobId) (kept : Bool) (g : List Row) → Legal set rule (Release j kept ∷ g) →
    Each (λ x. live_in set (Release j kept ∷ g) x ≡ live_in set g x) (placed g)
others_live set rule j kept g l =
    let c = release_count set rule g j kept l in
    Each-map {P = λ (x : Placed). x.kept.job.count ≤ releases g x.kept.job.task.0} (λ x k. let n = other_job g j x.kept.job c k in rw n refl) (placed g)
    (placed_count set rule g (bridge set rule g l.2).legal)

-- the new job is live
pub new_live : (set : List Task) (rule : Rule) (j : JobId) (g : List Row) → Legal set rule (Release j true ∷ g) → is_still_pending set (Release j true ∷ g) (record { job = j; release = ticks g }) ≡ true
new_live set rule j g l = rw (not_ended g j (fresh_used set rule g j true l), same_job-refl j) (or_not (is_high_in (task_at set j.task.0)))

-- the live ones of the kept releases wait
pub waiting_is : (set : List Task) (rule : Rule) (h : List Row) → Legal set rule h → filter (λ x. is_still_pending set h x.kept) (placed h) ≡ waiting set h
waiting_is set rule [] l = refl
waiting_is set rule (Idle ∷ g) l = waiting_is set rule g l.2
waiting_is set rule (Tick j how ∷ g) l =
    filter_ext (live_in set (Tick j how ∷ g)) (λ x. live_in set g x && stays set j how x) (placed g) (Each-all (λ x. tick_live (is_end how) (same_job j x.kept.job) (ended g x.kept.job) (is_high_in (task_at set x.kept.job.task.0)) (is_over how) (over_since g x.kept.job)) (placed g))
    ∙ (sym (filter-filter (stays set j how) (live_in set g) (placed g)) ∙ ap (filter (stays set j how)) (waiting_is set rule g l.2))
waiting_is set rule (Release j false ∷ g) l =
    filter_ext (live_in set (Release j false ∷ g)) (live_in set g) (placed g) (others_live set rule j false g l) ∙ waiting_is set rule g l.2
waiting_is set rule (Release j true ∷ g) l =
    rw (new_live set rule j g l)
    (ap (λ xs. new_one j g ∷ xs) (filter_ext (live_in set (Release j true ∷ g)) (live_in set g) (placed g) (others_live set rule j true g l) ∙ waiting_is set rule g l.2))

-- the kept release without its row number
abbrev pub kept_of : Placed → KeptRelease
kept_of x = x.kept

-- the kept releases are those with row numbers, without the numbers
pub released_is : (h : List Row) → released h ≡ map (λ (x : Placed). x.kept) (placed h)
released_is [] = refl
released_is (Release j true ∷ g) = ap (λ xs. record { job = j; release = ticks g } ∷ xs) (released_is g)
released_is (row ∷ g) = released_is g

-- the pending jobs are those that wait
pub pending_is : (set : List Task) (rule : Rule) (h : List Row) → Legal set rule h → pending set h ≡ map (λ (x : Placed). x.kept) (waiting set h)
pending_is set rule h l =
    ap (filter (is_still_pending set h)) (released_is h)
    ∙ (filter-map (is_still_pending set h) (λ (x : Placed). x.kept) (placed h) ∙ ap (map (λ (x : Placed). x.kept)) (waiting_is set rule h l))

-- the next job of a task was not released
pub none_placed : (g : List Row) (j : JobId) → j.count ≡ releases g j.task.0 + 1 → (xs : List Placed) → Each (λ x. x.kept.job.count ≤ releases g x.kept.job.task.0) xs → total (when (λ (x : Placed). same_job j x.kept.job) one) xs ≡ 0
none_placed g j c [] k = refl
none_placed g j c (x ∷ xs) k = grind (arith, other_job g j x.kept.job c k.0, none_placed g j c xs k.1)

-- each job is released once
pub one_placed : (set : List Task) (rule : Rule) (h : List Row) → Legal set rule h → (i : JobId) → total (when (λ x. same_job i x.kept.job) one) (placed h) ≤ 1
one_placed set rule [] l i = omega arith
one_placed set rule (Release j true ∷ g) l i =
    let none : same_job i j ≡ true → total (when (λ (x : Placed). same_job i x.kept.job) one) (placed g) ≡ 0 =
    λ m. rw (job_eq i j m) (none_placed g j (release_count set rule g j true l) (placed g) (placed_count set rule g (bridge set rule g l.2).legal)) in
    grind (arith, one_placed set rule g l.2 i, none)
one_placed set rule (row ∷ g) l i = one_placed set rule g l.2 i

-- each job is pending at most once
pub one_waiting : (set : List Task) (rule : Rule) (h : List Row) → Legal set rule h → (i : JobId) → total (when (λ x. same_job i x.kept.job) one) (waiting set h) ≤ 1
one_waiting set rule h l i =
    let less = less_filtered (when (λ (x : Placed). same_job i x.kept.job) one) (λ x. is_still_pending set h x.kept) (placed h) in
    omega (arith, one_placed set rule h l i, less, ap (total (when (λ (x : Placed). same_job i x.kept.job) one)) (waiting_is set rule h l))

-- there are no more kept releases than rows
pub placed_le : (h : List Row) → length (placed h) ≤ length h
placed_le [] = omega arith
placed_le (Release j true ∷ g) = omega (arith, placed_le g)
placed_le (row ∷ g) = omega (arith, placed_le g)
