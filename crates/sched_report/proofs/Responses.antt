-- What a row adds to the responses of a task. The newest row stands first.
use Rattle.std.proofs.Common.{◌≡◌, ℕ, ◌+◌, ◌-◌, max, Bool, true, false, ◌&&◌, ◌||◌, ◌==◌, List, [], ◌∷◌, filter, map, refl, ap, subst, arith}
use Rattle.mc_task.specs.declared.task.Rule.{Rule}
use Rattle.mc_task.specs.declared.task.Task.{Task}
use Rattle.mc_task.specs.declared.task.JobId.{JobId}
use Rattle.mc_model.specs.declared.row.How.{How}
use Rattle.mc_model.specs.declared.row.Row.{Row}
use Rattle.mc_model.specs.declared.row.Row.TheVariants.{Release, Tick}
use Rattle.mc_model.specs.Pending.{KeptRelease, released, pending, is_end, is_still_pending, ended}
use Rattle.mc_model.specs.Rows.{same_job, ticks, releases}
use Rattle.mc_model.specs.Legal.{Legal, is_pending}
use Rattle.sched_report.specs.ReportText.{is_of, response, responses, greatest}
use Rattle.mc_model.proofs.Lists.{Each, Each-all, Each-map, Each-both, Each-filter, Each-filter_if}
use Rattle.mc_model.proofs.Jobs.{job_eq}
use Rattle.mc_model.proofs.Steps.{release_fits}
use Rattle.mc_model.proofs.Counts.{counted}
use Rattle.mc_model.proofs.Bridge.{bridge, not_ended}
use Rattle.sched_report.proofs.Released.{release_of, release_is, ticks_pending, at_pending}
use Rattle.std.proofs.lemmas.Bool.{and_parts, or_parts, not-true}
use Rattle.std.proofs.Math.Bool.{and-false}
use Rattle.mc_model.proofs.Booleans.{or_true}

-- equal values, and tests that agree, pick the same values
same_values : (f g : KeptRelease → ℕ) (p q : KeptRelease → Bool) (xs : List KeptRelease) → Each (λ x. (p x ≡ q x) × (q x ≡ true → f x ≡ g x)) xs → map f (filter p xs) ≡ map g (filter q xs)
same_values f g p q [] h = refl
same_values f g p q (x ∷ xs) h = go (q x) refl (same_values f g p q xs h.1)
  where
    go : (b : Bool) → q x ≡ b → map f (filter p xs) ≡ map g (filter q xs) → map f (filter p (x ∷ xs)) ≡ map g (filter q (x ∷ xs))
    go true m ih = rw (h.0.0, m) (rw (h.0.1 m) (ap (λ ns. g x ∷ ns) ih))
    go false m ih = rw (h.0.0, m) ih

-- if no element is of the job, each is of another job
none_there : (j : JobId) (xs : List KeptRelease) → is_pending xs j ≡ false → Each (λ x. same_job j x.job ≡ false) xs
none_there j [] h = tt
none_there j (x ∷ xs) h = let p = or_parts (same_job j x.job) (is_pending xs j) h in (p.0, none_there j xs p.1)

-- an element that a filter keeps was in the list
there : (p : KeptRelease → Bool) (j : JobId) (xs : List KeptRelease) → is_pending (filter p xs) j ≡ true → is_pending xs j ≡ true
there p j [] h = h
there p j (x ∷ xs) h = go (p x) refl (there p j xs)
  where
    either : (a b c : Bool) → (b ≡ true → c ≡ true) → (a || b) ≡ true → (a || c) ≡ true
    either true b c f h = refl
    either false b c f h = f h

    go : (b : Bool) → p x ≡ b → (is_pending (filter p xs) j ≡ true → is_pending xs j ≡ true) → is_pending (x ∷ xs) j ≡ true
    go true m ih = either (same_job j x.job) (is_pending (filter p xs) j) (is_pending xs j) ih (rw m at h)
    go false m ih = or_true (same_job j x.job) (is_pending xs j) (ih (rw m at h))

-- the tests and values differ only in one job, whose value is added
record IsAdded (f g : KeptRelease → ℕ) (p q : KeptRelease → Bool) (j : JobId) (v : ℕ) (x : KeptRelease) : Type 0 where
  other : same_job j x.job ≡ false → (p x ≡ q x) × (f x ≡ g x)
  mine : same_job j x.job ≡ true → (q x ≡ false) × (p x ≡ true) × (f x ≡ v)

greatest_with : (f g : KeptRelease → ℕ) (p q : KeptRelease → Bool) (j : JobId) (v : ℕ) (xs : List KeptRelease) → is_pending xs j ≡ true → Each (IsAdded f g p q j v) xs → greatest (map f (filter p xs)) ≡ max (greatest (map g (filter q xs))) v
greatest_with f g p q j v [] t h = cc
greatest_with f g p q j v (x ∷ xs) t h = go (same_job j x.job) refl (greatest_with f g p q j v xs)
  where
    tail : (b : Bool) → is_pending xs j ≡ b → (is_pending xs j ≡ true → Each (IsAdded f g p q j v) xs → greatest (map f (filter p xs)) ≡ max (greatest (map g (filter q xs))) v)
        → max v (greatest (map f (filter p xs))) ≡ max (greatest (map g (filter q xs))) v
    tail true n ih = let e = ih n h.1 in omega (arith, e)
    tail false n ih =
        let e = ap greatest (same_values f g p q xs (Each-both (λ x a o. let s = a.other o in (s.0, λ c. s.1)) xs h.1 (none_there j xs n))) in
        omega (arith, e)

    first : (b : Bool) → q x ≡ b → same_job j x.job ≡ false → greatest (map f (filter p xs)) ≡ max (greatest (map g (filter q xs))) v → greatest (map f (filter p (x ∷ xs))) ≡ max (greatest (map g (filter q (x ∷ xs)))) v
    first true n m e = let s = h.0.other m in rw (s.0, n) (let same : f x ≡ g x = s.1 in omega (arith, e, same))
    first false n m e = let s = h.0.other m in rw (s.0, n) e

    go : (b : Bool) → same_job j x.job ≡ b → (is_pending xs j ≡ true → Each (IsAdded f g p q j v) xs → greatest (map f (filter p xs)) ≡ max (greatest (map g (filter q xs))) v)
        → greatest (map f (filter p (x ∷ xs))) ≡ max (greatest (map g (filter q (x ∷ xs)))) v
    go true m ih = let s = h.0.mine m in rw (s.0, s.1, s.2) (tail (is_pending xs j) refl ih)
    go false m ih = first (q x) refl m (ih (rw m at t) h.1)

-- a release adds no response
pub responses-release : (set : List Task) (rule : Rule) (j : JobId) (kept : Bool) (g : List Row) (k : ℕ) → Legal set rule (Release j kept ∷ g) → responses (Release j kept ∷ g) k ≡ responses g k
responses-release set rule j false g k l = refl
responses-release set rule j true g k l =
    let b = (bridge set rule (Release j true ∷ g) l).legal in
    let c : j.count ≡ releases g j.task.0 + 1 = (release_fits set rule j true g b.1).count in
    let fresh : ended g j ≡ false = not_ended g j ((counted set rule g b.2).fresh j (omega (arith, c))) in
    rw (fresh, and-false) refl

-- a tick that is not its job's last adds no response
pub responses-tick : (j : JobId) (how : How) (g : List Row) (k : ℕ) → is_end how ≡ false → responses (Tick j how ∷ g) k ≡ responses g k
responses-tick j how g k e =
    same_values (response (Tick j how ∷ g)) (response g) (λ i. is_of k i && ended (Tick j how ∷ g) i.job) (λ i. is_of k i && ended g i.job) (released g)
    (Each-all (λ x. (rw e refl, λ m. rw e refl)) (released g))

-- a tick of another task adds no response
pub responses-other : (j : JobId) (how : How) (g : List Row) (k : ℕ) → (j.task.0 == k) ≡ false → responses (Tick j how ∷ g) k ≡ responses g k
responses-other j how g k o =
    same_values (response (Tick j how ∷ g)) (response g) (λ i. is_of k i && ended (Tick j how ∷ g) i.job) (λ i. is_of k i && ended g i.job) (released g)
    (Each-all each (released g))
  where
    each : (x : KeptRelease) → ((is_of k x && ended (Tick j how ∷ g) x.job) ≡ (is_of k x && ended g x.job)) × ((is_of k x && ended g x.job) ≡ true → response (Tick j how ∷ g) x ≡ response g x)
    each x = go (same_job j x.job) refl
      where
        not_of : same_job j x.job ≡ true → is_of k x ≡ false
        not_of m = subst (λ (i : JobId). (i.task.0 == k) ≡ false) (job_eq j x.job m) o

        go : (b : Bool) → same_job j x.job ≡ b → ((is_of k x && ended (Tick j how ∷ g) x.job) ≡ (is_of k x && ended g x.job)) × ((is_of k x && ended g x.job) ≡ true → response (Tick j how ∷ g) x ≡ response g x)
        go true m = (rw (not_of m) refl, λ t. absurd (let f = rw (not_of m) at t in cc f))
        go false m = (rw (m, and-false) refl, λ t. rw (m, and-false) refl)

-- the last tick of a job of the task adds its response
pub responses-end : (set : List Task) (rule : Rule) (j : JobId) (how : How) (g : List Row) (k : ℕ) → is_end how ≡ true → (j.task.0 == k) ≡ true → Legal set rule (Tick j how ∷ g)
    → greatest (responses (Tick j how ∷ g) k) ≡ max (greatest (responses g k)) (ticks g + 1 - release_of g j)
responses-end set rule j how g k e o l =
    greatest_with (response (Tick j how ∷ g)) (response g) (λ i. is_of k i && ended (Tick j how ∷ g) i.job) (λ i. is_of k i && ended g i.job) j (ticks g + 1 - release_of g j) (released g)
    (there (is_still_pending set g) j (released g) (ticks_pending set rule j how g l))
    (Each-map {P = λ x. same_job j x.job ≡ true → x.release ≡ release_of g j} (λ x r. record { other = other x; mine = mine x r }) (released g) (release_is set rule g j l.2))
  where
    open_job : ended g j ≡ false
    open_job =
        at_pending (λ i r. ended g i ≡ false) j (release_of g j) (pending set g) (ticks_pending set rule j how g l)
        (Each-filter (λ x. same_job j x.job ≡ true → x.release ≡ release_of g j) (is_still_pending set g) (released g) (release_is set rule g j l.2))
        (Each-filter_if (λ x. ended g x.job ≡ false) (is_still_pending set g) (released g) (Each-all (λ x h. not-true (ended g x.job) (and_parts _ _ h).0) (released g)))

    other : (x : KeptRelease) → same_job j x.job ≡ false → ((is_of k x && ended (Tick j how ∷ g) x.job) ≡ (is_of k x && ended g x.job)) × (response (Tick j how ∷ g) x ≡ response g x)
    other x m = (rw (e, m) refl, rw (e, m) refl)

    mine : (x : KeptRelease) → (same_job j x.job ≡ true → x.release ≡ release_of g j) → same_job j x.job ≡ true
        → ((is_of k x && ended g x.job) ≡ false) × ((is_of k x && ended (Tick j how ∷ g) x.job) ≡ true) × (response (Tick j how ∷ g) x ≡ ticks g + 1 - release_of g j)
    mine x r m =
        let of_task : is_of k x ≡ true = subst (λ (i : JobId). (i.task.0 == k) ≡ true) (job_eq j x.job m) o in
        let not_yet : ended g x.job ≡ false = subst (λ i. ended g i ≡ false) (job_eq j x.job m) open_job in
        (rw (of_task, not_yet) refl, rw (of_task, e, m) refl, rw (e, m) (ap (λ n. ticks g + 1 - n) (r m)))
