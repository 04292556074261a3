-- Each task has at most one pending job, and none at a boundary where its next release may come.
use Rattle.std.proofs.Common.{◌≡◌, ℕ, ◌+◌, ◌*◌, ◌≤◌, Bool, true, false, List, [], ◌∷◌, cond, filter, nat_le, ◌==◌, refl, sym, subst, arith, le_refl, le_trans, leb-true, eqb-true, mul-le-mul_right}
use Rattle.std.specs.List.{AllByRecursion}
use Rattle.mc_task.specs.declared.task.Rule.{Rule}
use Rattle.mc_task.specs.declared.task.Rule.TheVariants.{Plain, Virtual}
use Rattle.mc_task.specs.declared.task.Task.{Task}
use Rattle.mc_task.specs.TaskSet.{task_at, IsTask}
use Rattle.mc_model.specs.declared.row.Row.{Row}
use Rattle.mc_model.specs.declared.row.Row.TheVariants.{Release, Tick, Idle}
use Rattle.mc_model.specs.TaskNumbers.{period_in, is_high_in}
use Rattle.mc_model.specs.Holds.{Holds}
use Rattle.mc_model.specs.Pending.{KeptRelease}
use Rattle.mc_model.specs.Rows.{ticks, next_release}
use Rattle.mc_model.specs.Legal.{none_below}
use Rattle.mc_model.specs.Mode.{high_mode}
use Rattle.mc_model.specs.Key.{key}
use Rattle.demand_law.specs.OneLive.{pending_of}
use Rattle.mc_model.proofs.Fold.{pending, stays, Legal}
use Rattle.mc_model.proofs.Lists.{Each, Each-map, Each-filter}
use Rattle.mc_model.proofs.Steps.{release_fits}
use Rattle.mc_model.proofs.Booleans.{eqb-refl}
use Rattle.demand_law.proofs.LowMode.{low_law}
use Rattle.demand_law.proofs.Switch.{high_law}
use Rattle.demand_law.proofs.Releases.{next_release-grows}
use Rattle.std.proofs.lemmas.Bool.{and_parts}

-- the deadline of a pending job has not come
abbrev pub InTime : List Task → List Row → KeptRelease → Type 0
InTime set h x = ticks h + 1 ≤ x.release + period_in (task_at set x.job.task.0)

-- under plain EDF the mode is low
plain_mode : (h : List Row) → high_mode Plain h ≡ false
plain_mode [] = refl
plain_mode (Release j kept ∷ g) = plain_mode g
plain_mode (Tick j how ∷ g) = plain_mode g
plain_mode (Idle ∷ g) = refl

-- under plain EDF, by the keys, no deadline of a pending job has come
plain_time : (set : List Task) (h : List Row) (xs : List KeptRelease) → none_below set Plain false (1 * ticks h + 1) xs ≡ true → Each (InTime set h) xs
plain_time set h [] f = tt
plain_time set h (x ∷ xs) f =
    let w = and_parts (nat_le (1 * ticks h + 1) (key set Plain false x)) (none_below set Plain false (1 * ticks h + 1) xs) f in
    let k : 1 * ticks h + 1 ≤ key set Plain false x = leb-true _ _ w.0 in
    (omega (arith, k), plain_time set h xs w.1)

-- a greater number of units is a greater number of ticks
above_scaled : (q t n : ℕ) → q * t + 1 ≤ q * n → t + 1 ≤ n
above_scaled q t n h = grind arith

-- under EDF-VD, by the keys of either mode, no deadline of a pending job has come
virtual_time : (set : List Task) (p q : ℕ) (high : Bool) (h : List Row) (xs : List KeptRelease) → p ≤ q → none_below set (Virtual p q) high (q * ticks h + 1) xs ≡ true → Each (InTime set h) xs
virtual_time set p q high h [] pq f = tt
virtual_time set p q high h (x ∷ xs) pq f = (above_scaled q (ticks h) _ (omega (arith, k, below high (is_high_in (task_at set x.job.task.0)))), virtual_time set p q high h xs pq w.1)
  where
    w : (nat_le (q * ticks h + 1) (key set (Virtual p q) high x) ≡ true) × (none_below set (Virtual p q) high (q * ticks h + 1) xs ≡ true)
    w = and_parts (nat_le (q * ticks h + 1) (key set (Virtual p q) high x)) (none_below set (Virtual p q) high (q * ticks h + 1) xs) f

    k : q * ticks h + 1 ≤ key set (Virtual p q) high x
    k = leb-true _ _ w.0

    below : (b c : Bool) → cond b (q * period_in (task_at set x.job.task.0)) (cond c (p * period_in (task_at set x.job.task.0)) (q * period_in (task_at set x.job.task.0))) ≤ q * period_in (task_at set x.job.task.0)
    below true c = le_refl _
    below false true = mul-le-mul_right _ pq
    below false false = le_refl _

-- by the law of the trace's mode, no deadline of a pending job has come
pub in_time : (set : List Task) (rule : Rule) (h : List Row) → AllByRecursion IsTask set → Holds set rule → Legal set rule h → Each (InTime set h) (pending set h)
in_time set Plain h s holds l = plain_time set h (pending set h) (low_law set Plain h s holds l (plain_mode h))
in_time set (Virtual p q) h s holds l = go (high_mode (Virtual p q) h) refl
  where
    go : (b : Bool) → high_mode (Virtual p q) h ≡ b → Each (InTime set h) (pending set h)
    go true m = virtual_time set p q true h (pending set h) holds.1 (high_law set p q h s holds l m)
    go false m = virtual_time set p q false h (pending set h) holds.1 (low_law set (Virtual p q) h s holds l m)

-- the next release of a pending job's task is no earlier than its deadline
abbrev Followed : List Task → List Row → KeptRelease → Type 0
Followed set h x = x.release + period_in (task_at set x.job.task.0) ≤ next_release set h x.job.task.0

-- in a legal trace the next release of each pending job's task is no earlier than its deadline
followed : (set : List Task) (rule : Rule) (h : List Row) → Legal set rule h → Each (Followed set h) (pending set h)
followed set rule [] l = tt
followed set rule (Release j true ∷ g) l =
    let soon = (release_fits set rule j true g l.1).soon in
    (rw (eqb-refl j.task.0) (le_refl _), Each-map {P = Followed set g} (λ x f. le_trans f (next_release-grows set j true g x.job.task.0 soon)) (pending set g) (followed set rule g l.2))
followed set rule (Release j false ∷ g) l =
    let soon = (release_fits set rule j false g l.1).soon in
    Each-map {P = Followed set g} (λ x f. le_trans f (next_release-grows set j false g x.job.task.0 soon)) (pending set g) (followed set rule g l.2)
followed set rule (Tick j how ∷ g) l = Each-filter (Followed set g) (stays set j how) (pending set g) (followed set rule g l.2)
followed set rule (Idle ∷ g) l = followed set rule g l.2

-- at a boundary where a task's next release may come, a pending job in time is of another task
none_of : (set : List Task) (h : List Row) (k : ℕ) (xs : List KeptRelease) → next_release set h k ≤ ticks h → Each (InTime set h) xs → Each (Followed set h) xs → pending_of k xs ≡ 0
none_of set h k [] n i f = refl
none_of set h k (x ∷ xs) n i f = go (none_of set h k xs n i.1 f.1) (x.job.task.0 == k) refl
  where
    go : pending_of k xs ≡ 0 → (b : Bool) → (x.job.task.0 == k) ≡ b → cond (x.job.task.0 == k) 1 0 + pending_of k xs ≡ 0
    go ih true m =
        let a : next_release set h x.job.task.0 ≤ ticks h = subst (λ (v : ℕ). next_release set h v ≤ ticks h) (sym (eqb-true _ _ m)) n in
        let b : x.release + period_in (task_at set x.job.task.0) ≤ next_release set h x.job.task.0 = f.0 in
        let c : ticks h + 1 ≤ x.release + period_in (task_at set x.job.task.0) = i.0 in
        absurd (omega (arith, a, b, c))
    go ih false m = rw m (omega (arith, ih))

-- no job of a task is pending at a boundary where its next release may come
pub none_live : (set : List Task) (rule : Rule) (h : List Row) (k : ℕ) → AllByRecursion IsTask set → Holds set rule → Legal set rule h → next_release set h k ≤ ticks h → pending_of k (pending set h) ≡ 0
none_live set rule h k s holds l n = none_of set h k (pending set h) n (in_time set rule h s holds l) (followed set rule h l)

-- a filter keeps no more jobs of a task than there were
pending_of-filter : (k : ℕ) (p : KeptRelease → Bool) (xs : List KeptRelease) → pending_of k (filter p xs) ≤ pending_of k xs
pending_of-filter k p [] = le_refl _
pending_of-filter k p (x ∷ xs) =
    let ih : pending_of k (filter p xs) ≤ pending_of k xs = pending_of-filter k p xs in
    elim (p x) as (λ b. pending_of k (cond b (x ∷ filter p xs) (filter p xs)) ≤ cond (x.job.task.0 == k) 1 0 + pending_of k xs)
    [ true ↦ omega (arith, ih) | false ↦ omega (arith, ih) ]

-- each task has at most one pending job, since none was pending at its last release
pub one_live : (set : List Task) (rule : Rule) (h : List Row) (k : ℕ) → AllByRecursion IsTask set → Holds set rule → Legal set rule h → pending_of k (pending set h) ≤ 1
one_live set rule [] k s holds l = omega arith
one_live set rule (Release j true ∷ g) k s holds l = go (one_live set rule g k s holds l.2) (j.task.0 == k) refl
  where
    go : pending_of k (pending set g) ≤ 1 → (b : Bool) → (j.task.0 == k) ≡ b → cond (j.task.0 == k) 1 0 + pending_of k (pending set g) ≤ 1
    go ih true m =
        let n : next_release set g k ≤ ticks g = subst (λ (v : ℕ). next_release set g v ≤ ticks g) (eqb-true _ _ m) (release_fits set rule j true g l.1).soon in
        let z : pending_of k (pending set g) ≡ 0 = none_live set rule g k s holds l.2 n in
        rw m (omega (arith, z))
    go ih false m = rw m (omega (arith, ih))
one_live set rule (Release j false ∷ g) k s holds l = one_live set rule g k s holds l.2
one_live set rule (Tick j how ∷ g) k s holds l = le_trans (pending_of-filter k (stays set j how) (pending set g)) (one_live set rule g k s holds l.2)
one_live set rule (Idle ∷ g) k s holds l = one_live set rule g k s holds l.2
