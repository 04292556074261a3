-- Each kept job of a legal trace was done, stopped or discarded, or is pending. The newest row stands first.
use Rattle.std.proofs.Common.{◌≡◌, ℕ, ◌+◌, ◌≤◌, Bool, true, false, ◌&&◌, ◌==◌, List, [], ◌∷◌, refl, sym, ap, ◌∙◌, arith}
use Rattle.mc_task.specs.declared.task.Rule.{Rule}
use Rattle.mc_task.specs.declared.task.Task.{Task}
use Rattle.mc_task.specs.declared.task.JobId.{JobId}
use Rattle.mc_model.specs.declared.row.How.{How}
use Rattle.mc_model.specs.declared.row.How.TheVariants.{More, Done, Stop, Over}
use Rattle.mc_model.specs.declared.row.Row.{Row}
use Rattle.mc_model.specs.declared.row.Row.TheVariants.{Release, Tick, Idle}
use Rattle.mc_model.specs.Pending.{KeptRelease, released, pending, is_end, is_still_pending, over_since}
use Rattle.mc_model.specs.Rows.{same_job, ticks}
use Rattle.mc_model.specs.Mode.{is_over}
use Rattle.mc_model.specs.Legal.{Legal, is_pending, same_how}
use Rattle.sched_report.specs.ReportText.{how_many, is_of, is_how_of, is_discarded, CountsAddUp}
use Rattle.std.proofs.Math.Bool.{and-false, and-true, and-not_self}
use Rattle.mc_model.proofs.Lists.{Each, Each-all, Each-map}
use Rattle.mc_model.proofs.Jobs.{job_eq, same_job-refl}
use Rattle.sched_report.proofs.HowMany.{one, how_many-cons, how_many_same, how_many_none, how_many_both, how_many-filter, how_many-kept}
use Rattle.mc_model.proofs.Fold.{stays}
use Rattle.sched_report.proofs.Released.{none_of_next, once, pending-release, ticks_pending}
use Rattle.mc_model.proofs.Bridge.{pending-tick}

-- how many jobs of a task were discarded
abbrev pub discarded : List Task → List Row → ℕ → ℕ
discarded set h k = how_many (λ i. is_of k i && is_discarded set h i) (released h)

-- a row that is not an overrun for any released job leaves the discarded jobs as they are
quiet : (set : List Task) (row : Row) (g : List Row) (k : ℕ) → Each (λ x. over_since (row ∷ g) x.job ≡ over_since g x.job) (released g)
    → how_many (λ i. is_of k i && is_discarded set (row ∷ g) i) (released g) ≡ discarded set g k
quiet set row g k same =
    how_many_same (λ i. is_of k i && is_discarded set (row ∷ g) i) (λ i. is_of k i && is_discarded set g i) (released g)
    (Each-map {P = λ x. over_since (row ∷ g) x.job ≡ over_since g x.job} (λ x e. rw (e, and-not_self (over_since g x.job)) refl) (released g) same)

-- a release leaves the discarded jobs as they are
before_release : (set : List Task) (rule : Rule) (j : JobId) (kept : Bool) (g : List Row) (k : ℕ) → Legal set rule (Release j kept ∷ g)
    → how_many (λ i. is_of k i && is_discarded set (Release j kept ∷ g) i) (released g) ≡ discarded set g k
before_release set rule j kept g k l =
    quiet set (Release j kept) g k (Each-map {P = λ x. same_job j x.job ≡ false} (λ x n. rw n refl) (released g) (none_of_next set rule j kept g l))

-- a release discards no job
pub discarded-release : (set : List Task) (rule : Rule) (j : JobId) (kept : Bool) (g : List Row) (k : ℕ) → Legal set rule (Release j kept ∷ g) → discarded set (Release j kept ∷ g) k ≡ discarded set g k
discarded-release set rule j false g k l = before_release set rule j false g k l
discarded-release set rule j true g k l =
    let new : KeptRelease = record { job = j; release = ticks g } in
    let not_new : (is_of k new && is_discarded set (Release j true ∷ g) new) ≡ false = rw (same_job-refl j, and-false, and-false) refl in
    how_many-cons (λ (i : KeptRelease). is_of k i && is_discarded set (Release j true ∷ g) i) new (released g)
    ∙ omega (arith, ap one not_new, before_release set rule j true g k l)

-- an idle tick discards no job
pub discarded-idle : (set : List Task) (g : List Row) (k : ℕ) → discarded set (Idle ∷ g) k ≡ discarded set g k
discarded-idle set g k = quiet set Idle g k (Each-all (λ x. refl) (released g))

-- a tick that is not an overrun discards no job
pub discarded-tick : (set : List Task) (j : JobId) (how : How) (g : List Row) (k : ℕ) → is_over how ≡ false → discarded set (Tick j how ∷ g) k ≡ discarded set g k
discarded-tick set j how g k h = quiet set (Tick j how) g k (Each-all (λ x. rw h refl) (released g))

-- how many jobs of a task are pending
abbrev pub live : List Task → List Row → ℕ → ℕ
live set h k = how_many (is_of k) (pending set h)

-- an overrun discards the pending jobs of low tasks
pub discarded-over : (set : List Task) (j : JobId) (g : List Row) (k : ℕ) → discarded set (Tick j Over ∷ g) k + live set (Tick j Over ∷ g) k ≡ discarded set g k + live set g k
discarded-over set j g k =
    let after : live set (Tick j Over ∷ g) k ≡ how_many (λ x. is_still_pending set (Tick j Over ∷ g) x && is_of k x) (released g) = how_many-filter (is_of k) (is_still_pending set (Tick j Over ∷ g)) (released g) in
    let before : live set g k ≡ how_many (λ x. is_still_pending set g x && is_of k x) (released g) = how_many-filter (is_of k) (is_still_pending set g) (released g) in
    let both =
    how_many_both (λ x. is_of k x && is_discarded set (Tick j Over ∷ g) x) (λ x. is_still_pending set (Tick j Over ∷ g) x && is_of k x) (λ x. is_of k x && is_discarded set g x) (λ x. is_still_pending set g x && is_of k x) (released g)
    (Each-all each (released g)) in
    ap (λ n. discarded set (Tick j Over ∷ g) k + n) after ∙ (both ∙ ap (λ n. discarded set g k + n) (sym before))
  where
    each : (x : KeptRelease) → one (is_of k x && is_discarded set (Tick j Over ∷ g) x) + one (is_still_pending set (Tick j Over ∷ g) x && is_of k x) ≡ one (is_of k x && is_discarded set g x) + one (is_still_pending set g x && is_of k x)
    each x = go (over_since g x.job) refl
      where
        go : (b : Bool) → over_since g x.job ≡ b → one (is_of k x && is_discarded set (Tick j Over ∷ g) x) + one (is_still_pending set (Tick j Over ∷ g) x && is_of k x) ≡ one (is_of k x && is_discarded set g x) + one (is_still_pending set g x && is_of k x)
        go true m = rw m refl
        go false m = rw m (grind arith)

-- a tick's job is pending: at least one pending job is that job
own-some : (j : JobId) (xs : List KeptRelease) → is_pending xs j ≡ true → 1 ≤ how_many (λ x. same_job j x.job) xs
own-some j [] h = cc
own-some j (x ∷ xs) h = go (same_job j x.job) refl (own-some j xs)
  where
    go : (b : Bool) → same_job j x.job ≡ b → (is_pending xs j ≡ true → 1 ≤ how_many (λ x. same_job j x.job) xs) → 1 ≤ how_many (λ x. same_job j x.job) (x ∷ xs)
    go true m ih = omega (arith, ap one m, how_many-cons (λ (x : KeptRelease). same_job j x.job) x xs)
    go false m ih = let more = ih (rw m at h) in omega (arith, more, how_many-cons (λ (x : KeptRelease). same_job j x.job) x xs)

-- of a task's pending jobs, one is the tick's job if it is of the task, and none otherwise
own-one : (set : List Task) (rule : Rule) (j : JobId) (how : How) (g : List Row) (k : ℕ) → Legal set rule (Tick j how ∷ g) → how_many (λ x. same_job j x.job && is_of k x) (pending set g) ≡ one (j.task.0 == k)
own-one set rule j how g k l =
    how_many_same (λ x. same_job j x.job && is_of k x) (λ x. same_job j x.job && (j.task.0 == k)) (pending set g) (Each-all mine (pending set g))
    ∙ by_task (j.task.0 == k)
  where
    alike : (a b c : Bool) → (a ≡ true → b ≡ c) → (a && b) ≡ (a && c)
    alike true b c h = h refl
    alike false b c h = refl

    mine : (x : KeptRelease) → (same_job j x.job && is_of k x) ≡ (same_job j x.job && (j.task.0 == k))
    mine x = alike (same_job j x.job) (is_of k x) (j.task.0 == k) (λ n. ap (λ (i : JobId). i.task.0 == k) (sym (job_eq j x.job n)))

    by_task : (b : Bool) → how_many (λ x. same_job j x.job && b) (pending set g) ≡ one b
    by_task false = how_many_none (λ x. same_job j x.job && false) (pending set g) (Each-all (λ x. and-false (same_job j x.job)) (pending set g))
    by_task true =
        let most = how_many-kept (λ (x : KeptRelease). same_job j x.job) (is_still_pending set g) (released g) in
        how_many_same (λ x. same_job j x.job && true) (λ x. same_job j x.job) (pending set g) (Each-all (λ x. and-true (same_job j x.job)) (pending set g))
        ∙ omega (arith, most, once set rule g j l.2, own-some j (pending set g) (ticks_pending set rule j how g l))

-- a job's last tick takes one from the pending jobs of its task
pub live-end : (set : List Task) (rule : Rule) (j : JobId) (how : How) (g : List Row) (k : ℕ) → is_end how ≡ true → is_over how ≡ false → Legal set rule (Tick j how ∷ g)
    → live set (Tick j how ∷ g) k + one (j.task.0 == k) ≡ live set g k
live-end set rule j how g k e o l =
    let after : live set (Tick j how ∷ g) k ≡ how_many (λ x. stays set j how x && is_of k x) (pending set g) =
    ap (how_many (is_of k)) (pending-tick set rule j how g l) ∙ how_many-filter (is_of k) (stays set j how) (pending set g) in
    let both : how_many (λ x. stays set j how x && is_of k x) (pending set g) + how_many (λ x. same_job j x.job && is_of k x) (pending set g) ≡ how_many (is_of k) (pending set g) + how_many (λ x. false) (pending set g) =
    how_many_both (λ x. stays set j how x && is_of k x) (λ x. same_job j x.job && is_of k x) (is_of k) (λ x. false) (pending set g) (Each-all each (pending set g)) in
    let none : how_many (λ (x : KeptRelease). false) (pending set g) ≡ 0 = how_many_none (λ (x : KeptRelease). false) (pending set g) (Each-all (λ x. refl) (pending set g)) in
    omega (arith, after, both, none, own-one set rule j how g k l)
  where
    each : (x : KeptRelease) → one (stays set j how x && is_of k x) + one (same_job j x.job && is_of k x) ≡ one (is_of k x) + one false
    each x = rw (e, o) (grind arith)

-- the number of an `and` whose second part is true is that of its first part
pub one_of : (b : Bool) → one (b && true) ≡ one b
one_of b = grind arith

-- the number of an `and` whose second part is false is 0
pub none_of : (b : Bool) → one (b && false) ≡ 0
none_of b = grind arith

-- what a tick adds to the ticks of a task with this outcome
pub ended-tick : (j : JobId) (how kind : How) (g : List Row) (k : ℕ) → how_many (is_how_of k kind) (Tick j how ∷ g) ≡ one ((j.task.0 == k) && same_how how kind) + how_many (is_how_of k kind) g
ended-tick j how kind g k = how_many-cons (is_how_of k kind) (Tick j how) g

pub counts_add_up : CountsAddUp
counts_add_up set rule [] k l = refl
counts_add_up set rule (Release j true ∷ g) k l =
    let new : KeptRelease = record { job = j; release = ticks g } in
    let kept : how_many (is_of k) (new ∷ released g) ≡ one (j.task.0 == k) + how_many (is_of k) (released g) = how_many-cons (is_of k) new (released g) in
    let waits : live set (Release j true ∷ g) k ≡ one (j.task.0 == k) + live set g k = ap (how_many (is_of k)) (pending-release set rule j true g l) ∙ how_many-cons (is_of k) new (pending set g) in
    omega (arith, counts_add_up set rule g k l.2, kept, waits, discarded-release set rule j true g k l)
counts_add_up set rule (Release j false ∷ g) k l =
    let waits : live set (Release j false ∷ g) k ≡ live set g k = ap (how_many (is_of k)) (pending-release set rule j false g l) in
    omega (arith, counts_add_up set rule g k l.2, waits, discarded-release set rule j false g k l)
counts_add_up set rule (Idle ∷ g) k l = omega (arith, counts_add_up set rule g k l.2, discarded-idle set g k)
counts_add_up set rule (Tick j More ∷ g) k l =
    omega (arith, counts_add_up set rule g k l.2, discarded-tick set j More g k refl, ended-tick j More Done g k, ended-tick j More Stop g k, none_of (j.task.0 == k))
counts_add_up set rule (Tick j Over ∷ g) k l =
    omega (arith, counts_add_up set rule g k l.2, discarded-over set j g k, ended-tick j Over Done g k, ended-tick j Over Stop g k, none_of (j.task.0 == k))
counts_add_up set rule (Tick j how ∷ g) k l =
    let quiet = discarded-tick set j how g k refl in
    let last = live-end set rule j how g k refl refl l in
    omega (arith, counts_add_up set rule g k l.2, quiet, last, ended-tick j how Done g k, ended-tick j how Stop g k, one_of (j.task.0 == k), none_of (j.task.0 == k))
