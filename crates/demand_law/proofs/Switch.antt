-- Across the switch, and the law: in high mode no pending job has a deadline of at most the ticks.
use Rattle.std.proofs.Common.{◌≡◌, ℕ, ◌+◌, ◌-◌, ◌*◌, ◌<◌, ◌≤◌, ◌⊎◌, inl, inr, Bool, true, false, not, ◌||◌, List, [], ◌∷◌, cond, nat_le, nat_lt, refl, arith, le_refl, le_trans, leb-true, leb-false, ltb-true, ltb-false, le-leb, mul-le-mul_left, le_of_mul-le-mul_right}
use Rattle.std.proofs.lemmas.Bool.Decides.{nat_tests}
use Rattle.std.specs.List.{AllByRecursion}
use Rattle.mc_task.specs.declared.task.Rule.TheVariants.{Virtual}
use Rattle.mc_task.specs.declared.task.Task.{Task}
use Rattle.mc_task.specs.declared.task.JobId.{JobId}
use Rattle.mc_task.specs.TaskSet.{task_at, IsTask}
use Rattle.mc_model.specs.declared.row.How.{How}
use Rattle.mc_model.specs.declared.row.Row.{Row}
use Rattle.mc_model.specs.declared.row.Row.TheVariants.{Release, Tick, Idle}
use Rattle.mc_task.specs.Kinds.{is_high}
use Rattle.mc_model.specs.TaskNumbers.{period_in, low_in, own_in, is_high_in}
use Rattle.mc_model.specs.Holds.{Holds}
use Rattle.mc_model.specs.Loads.{product, load, low_low, high_low, high_high, load_ll, load_hl, load_hh, by_level}
use Rattle.mc_model.specs.Pending.{KeptRelease}
use Rattle.mc_model.specs.Rows.{ticks, used}
use Rattle.mc_model.specs.Legal.{none_below}
use Rattle.mc_model.specs.Mode.{high_mode}
use Rattle.mc_model.specs.Key.{key}
use Rattle.mc_model.proofs.Fold.{pending, Legal}
use Rattle.mc_model.proofs.Jobs.{is_in, same_live-refl, each_in}
use Rattle.mc_model.specs.Sums.{total}
use Rattle.mc_model.proofs.Lists.{Each, Each-map, Each-both}
use Rattle.mc_model.proofs.Sums.{total-mono}
use Rattle.mc_model.proofs.Steps.{release_fits, tick_fits}
use Rattle.mc_model.proofs.Tasks.{known, at_index}
use Rattle.mc_model.proofs.Live.{IsLiveOk, live_ok}
use Rattle.mc_model.proofs.Booleans.{or_true}
use Rattle.mc_model.proofs.NumberedSums.{sum_numbered}
use Rattle.demand_law.proofs.Sums.{sum_bound, divides, load-linear}
use Rattle.demand_law.proofs.Share.{IsShare, ledger_less, ledger_same}
use Rattle.demand_law.proofs.Before.{owes, owed}
use Rattle.demand_law.proofs.LowPhase.{IsMark, Waits, waits_tick, low_tick, low_phase}
use Rattle.demand_law.proofs.HighPhase.{dues, due, HighLedger, high_live, anew, high_tick, high_release}
use Rattle.demand_law.proofs.Keys.{cancel_scale}
use Rattle.std.proofs.Math.Nat.{mul-pos}
use Rattle.mc_model.proofs.Hyperperiod.{product-pos}
use Rattle.mc_task.specs.declared.task.Level.{Level}
use Rattle.mc_task.specs.declared.task.Level.TheVariants.{Low, High}
use Rattle.std.proofs.lemmas.Bool.{and_parts}
use Rattle.std.proofs.Math.Bool.{beq}

-- a job that was released first among the jobs with keys of at most n
pub record LeastDue (set : List Task) (p q n : ℕ) (xs : List KeptRelease) : Type 0 where
  pub first : KeptRelease
  pub inside : is_in xs first ≡ true
  pub near : key set (Virtual p q) true first ≤ n
  pub least : Each (λ y. key set (Virtual p q) true y ≤ n → first.release ≤ y.release) xs

-- if all keys are above n, any release may count as the first
all_above : (set : List Task) (p q n m : ℕ) (xs : List KeptRelease) → none_below set (Virtual p q) true (n + 1) xs ≡ true → Each (λ y. key set (Virtual p q) true y ≤ n → m ≤ y.release) xs
all_above set p q n m [] f = tt
all_above set p q n m (x ∷ xs) f =
    let w = and_parts (nat_le (n + 1) (key set (Virtual p q) true x)) (none_below set (Virtual p q) true (n + 1) xs) f in
    (λ k. absurd (let l : n + 1 ≤ key set (Virtual p q) true x = leb-true _ _ w.0 in omega (arith, l, k)), all_above set p q n m xs w.1)

-- either all keys are above n, or one of the jobs with keys of at most n was released first
least_due : (set : List Task) (p q n : ℕ) (xs : List KeptRelease) → (none_below set (Virtual p q) true (n + 1) xs ≡ true) ⊎ LeastDue set p q n xs
least_due set p q n [] = inl refl
least_due set p q n (x ∷ xs) = go (least_due set p q n xs) (nat_le (key set (Virtual p q) true x) n) refl
  where
    here : nat_le (key set (Virtual p q) true x) n ≡ true → Each (λ y. key set (Virtual p q) true y ≤ n → x.release ≤ y.release) xs → LeastDue set p q n (x ∷ xs)
    here m r = record { first = x; inside = rw (same_live-refl x) refl; near = leb-true _ _ m; least = (λ k. le_refl _, r) }

    pick : (c : LeastDue set p q n xs) → nat_le (key set (Virtual p q) true x) n ≡ true → (b : Bool) → nat_lt x.release c.first.release ≡ b → LeastDue set p q n (x ∷ xs)
    pick c m true l = here m (Each-map {P = λ y. key set (Virtual p q) true y ≤ n → c.first.release ≤ y.release} (λ y h k. let a : x.release < c.first.release = ltb-true _ _ l in let b = h k in omega (arith, a, b)) xs c.least)
    pick c m false l = record { first = c.first; inside = or_true _ _ c.inside; near = c.near; least = (λ k. ltb-false _ _ l, c.least) }

    go : (none_below set (Virtual p q) true (n + 1) xs ≡ true) ⊎ LeastDue set p q n xs → (b : Bool) → nat_le (key set (Virtual p q) true x) n ≡ b → (none_below set (Virtual p q) true (n + 1) (x ∷ xs) ≡ true) ⊎ LeastDue set p q n (x ∷ xs)
    go (inl f) true m = inr (here m (all_above set p q n x.release xs f))
    go (inl f) false m = inl (let l : n + 1 ≤ key set (Virtual p q) true x = let z : n < key set (Virtual p q) true x = leb-false _ _ m in omega (arith, z) in rw (le-leb _ _ l) f)
    go (inr c) true m = inr (pick c m (nat_lt x.release c.first.release) refl)
    go (inr c) false m = inr (record { first = c.first; inside = or_true _ _ c.inside; near = c.near; least = (λ k. absurd (let z : n < key set (Virtual p q) true x = leb-false _ _ m in omega (arith, z, k)), c.least) })

-- at the switch each job that is due counts with its own budget
due_owed : (set : List Task) (p q e a : ℕ) (h : List Row) (x : KeptRelease) → 1 ≤ q → is_high_in (task_at set x.job.task.0) ≡ true → (key set (Virtual p q) true x ≤ q * e → a ≤ x.release) → dues set p q e h x ≤ owes set p q e a h x
due_owed set p q e a h x pos hi least = go (nat_le (key set (Virtual p q) true x) (q * e)) refl
  where
    not_less : (r a : ℕ) → a ≤ r → nat_lt r a ≡ false
    not_less r a h = grind (arith, nat_tests)

    go : (b : Bool) → nat_le (key set (Virtual p q) true x) (q * e) ≡ b → cond b (own_in (task_at set x.job.task.0) - used h x.job) 0 ≤ owes set p q e a h x
    go false m = omega arith
    go true m =
        let k : key set (Virtual p q) true x ≤ q * e = leb-true _ _ m in
        let t : x.release + period_in (task_at set x.job.task.0) ≤ e = cancel_scale q x.release (period_in (task_at set x.job.task.0)) e pos k in
        rw (hi, not_less x.release a (least k), le-leb _ _ t) (le_refl _)

-- a high job with a deadline of at most e has a virtual key within the limit
mark_of : (set : List Task) (p q e : ℕ) (x : KeptRelease) → 1 ≤ p → p ≤ q → is_high_in (task_at set x.job.task.0) ≡ true → key set (Virtual p q) true x ≤ q * e → IsMark set p q e x
mark_of set p q e x pos pq hi k =
    let t : x.release + period_in (task_at set x.job.task.0) ≤ e = cancel_scale q x.release (period_in (task_at set x.job.task.0)) e (le_trans pos pq) k in
    let s : p * period_in (task_at set x.job.task.0) ≤ p * (e - x.release) = mul-le-mul_left p (omega (arith, t)) in
    record { pos = pos; scale = pq; order = omega (arith, t); near = rw hi (omega (arith, s)) }

-- the ledger of high mode at the overrun that makes the mode high
at_switch : (set : List Task) (p q e : ℕ) (j : JobId) (how : How) (g : List Row) → AllByRecursion IsTask set → 1 ≤ p → p ≤ q → Legal set (Virtual p q) (Tick j how ∷ g) → high_mode (Virtual p q) g ≡ false → high_mode (Virtual p q) (Tick j how ∷ g) ≡ true → HighLedger set p q e (Tick j how ∷ g)
at_switch set p q e j how g s pos pq l low high = go (least_due set p q (q * e) (pending set (Tick j how ∷ g)))
  where
    hs : Each (λ x. is_high_in (task_at set x.job.task.0) ≡ true) (pending set (Tick j how ∷ g))
    hs = high_live set p q (Tick j how ∷ g) l high

    ok : Each (IsLiveOk set (Virtual p q) (Tick j how ∷ g)) (pending set (Tick j how ∷ g))
    ok = live_ok set (Virtual p q) (Tick j how ∷ g) s l

    go : (none_below set (Virtual p q) true (q * e + 1) (pending set (Tick j how ∷ g)) ≡ true) ⊎ LeastDue set p q (q * e) (pending set (Tick j how ∷ g)) → HighLedger set p q e (Tick j how ∷ g)
    go (inl f) = anew set p q e (Tick j how ∷ g) f
    go (inr c) =
        let x = c.first in
        let hi : is_high_in (task_at set x.job.task.0) ≡ true = each_in (λ y. is_high_in (task_at set y.job.task.0) ≡ true) x (pending set (Tick j how ∷ g)) c.inside hs in
        let mark : IsMark set p q e x = mark_of set p q e x pos pq hi c.near in
        let w : Waits set x (Tick j how ∷ g) = inl c.inside in
        let lg = low_phase set p q e x mark s g l.2 low (waits_tick set x j how g w) in
        let lt = low_tick set p q e x j how g mark (live_ok set (Virtual p q) g s l.2) (tick_fits set (Virtual p q) j how g l.1) low w lg in
        let q_pos : 1 ≤ q = le_trans pos pq in
        let less : due set p q e (Tick j how ∷ g) ≤ owed set p q e x.release (Tick j how ∷ g) =
        total-mono (owes set p q e x.release (Tick j how ∷ g)) (dues set p q e (Tick j how ∷ g)) (pending set (Tick j how ∷ g))
        (Each-both {P = λ y. is_high_in (task_at set y.job.task.0) ≡ true} {Q = λ y. key set (Virtual p q) true y ≤ q * e → x.release ≤ y.release} (λ y a b. due_owed set p q e x.release (Tick j how ∷ g) y q_pos a b) (pending set (Tick j how ∷ g)) hs c.least) in
        record {
          mid = x.release;
          past = (each_in (IsLiveOk set (Virtual p q) (Tick j how ∷ g)) x (pending set (Tick j how ∷ g)) c.inside ok).past;
          ledger = ledger_less set p q e x.release (Tick j how ∷ g) (due set p q e (Tick j how ∷ g)) (owed set p q e x.release (Tick j how ∷ g)) less lt;
        }

-- in high mode a release that is kept is high
high_kept : (a : Bool) → beq true (a || not true) ≡ true → a ≡ true
high_kept true h = refl
high_kept false h = h

-- high mode has a ledger
pub high_phase : (set : List Task) (p q e : ℕ) → AllByRecursion IsTask set → 1 ≤ p → p ≤ q → (h : List Row) → Legal set (Virtual p q) h → high_mode (Virtual p q) h ≡ true → HighLedger set p q e h
high_phase set p q e s pos pq [] l m = cc
high_phase set p q e s pos pq (Idle ∷ g) l m = cc
high_phase set p q e s pos pq (Release j true ∷ g) l m =
    let fits = release_fits set (Virtual p q) j true g l.1 in
    high_release set p q e j g (le_trans pos pq) pq l.0 (known set j.task.0 s l.0) (high_kept (is_high_in (task_at set j.task.0)) (rw m at fits.kept_so)) fits (high_phase set p q e s pos pq g l.2 m)
high_phase set p q e s pos pq (Release j false ∷ g) l m =
    let c = high_phase set p q e s pos pq g l.2 m in
    record { mid = c.mid; past = c.past; ledger = ledger_same set p q e c.mid j false g (due set p q e g) (release_fits set (Virtual p q) j false g l.1).soon c.ledger }
high_phase set p q e s pos pq (Tick j how ∷ g) l m = go (high_phase set p q e s pos pq g l.2) (high_mode (Virtual p q) g) refl
  where
    go : (high_mode (Virtual p q) g ≡ true → HighLedger set p q e g) → (b : Bool) → high_mode (Virtual p q) g ≡ b → HighLedger set p q e (Tick j how ∷ g)
    go ih true n = high_tick set p q e j how g (live_ok set (Virtual p q) g s l.2) (tick_fits set (Virtual p q) j how g l.1) n (ih n)
    go ih false n = at_switch set p q e j how g s pos pq l n m

-- what one task of this level asked for, with both parts of the scale; u is the time before the mark, v the
-- time after it
share : (l : Level) (p q d u v low high period : ℕ) →
    (is_high l ≡ false → d * (q * period) ≤ low * (q * u + p * v)) →
    (is_high l ≡ true → d * (p * period) ≤ low * (q * u) + high * (p * v)) →
    d * (p * q) * period ≤ ((q * u) * (p * by_level l low 0 + q * by_level l 0 low) + (p * v) * (p * by_level l low 0 + q * by_level l 0 high)) * 1
share Low p q d u v low high period lo hi = let w : p * (d * (q * period)) ≤ p * (low * (q * u + p * v)) = mul-le-mul_left p (lo refl) in omega (arith, w)
share High p q d u v low high period lo hi = let w : q * (d * (p * period)) ≤ q * (low * (q * u) + high * (p * v)) = mul-le-mul_left q (hi refl) in omega (arith, w)

-- what one task asked for, before and after the mark
share_one : (p q d u v : ℕ) (t : Task) →
    (is_high t.level ≡ false → d * (q * t.period) ≤ t.low * (q * u + p * v)) →
    (is_high t.level ≡ true → d * (p * t.period) ≤ t.low * (q * u) + t.high * (p * v)) →
    d * (p * q) * t.period ≤ ((q * u) * (p * low_low t + q * high_low t) + (p * v) * (p * low_low t + q * high_high t)) * 1
share_one p q d u v t lo hi = share t.level p q d u v t.low t.high t.period lo hi

-- the tasks asked for at most the time before the mark and the time after it
share_sum : (set : List Task) (p q e : ℕ) (h : List Row) (t a : ℕ) (d : ℕ → ℕ) → AllByRecursion IsTask set → Holds set (Virtual p q) → ((k : ℕ) → IsShare set p q e h t a k (d k)) → sum_numbered set d 1 ≤ (a - t) + (e - a)
share_sum set p q e h t a d s holds each =
    let n = product set in
    let u = a - t in
    let v = e - a in
    let f : Task → ℕ = λ x. p * low_low x + q * high_low x in
    let g : Task → ℕ = λ x. p * low_low x + q * high_high x in
    let b : sum_numbered set d 1 * (p * q) * n ≤ 1 * load (λ x. (q * u) * f x + (p * v) * g x) n set =
    sum_bound set d (λ x. (q * u) * f x + (p * v) * g x) (p * q) 1 n 1 (divides set s) (λ k x i.
    share_one p q (d (1 + k)) u v x
    (at_index set (λ o. is_high_in o ≡ false → d (1 + k) * (q * period_in o) ≤ low_in o * (q * u + p * v)) k x i (each (1 + k)).low_reach)
    (at_index set (λ o. is_high_in o ≡ true → d (1 + k) * (p * period_in o) ≤ low_in o * (q * u) + own_in o * (p * v)) k x i (each (1 + k)).high_reach)) in
    let o : load (λ x. (q * u) * f x + (p * v) * g x) n set ≡ (q * u) * load f n set + (p * v) * load g n set = load-linear (q * u) (p * v) f g n set in
    let of : load f n set ≡ p * load_ll set + q * load_hl set = load-linear p q low_low high_low n set in
    let og : load g n set ≡ p * load_ll set + q * load_hh set = load-linear p q low_low high_high n set in
    let cf : (q * u) * load f n set ≤ (q * u) * (p * n) = mul-le-mul_left (q * u) (omega (arith, of, holds.2)) in
    let cg : (p * v) * load g n set ≤ (p * v) * (q * n) = mul-le-mul_left (p * v) (omega (arith, og, holds.3)) in
    let pos : 1 ≤ (p * q) * n = mul-pos (mul-pos holds.0 (le_trans holds.0 holds.1)) (product-pos set s) in
    le_of_mul-le-mul_right {k = (p * q) * n} (omega (arith, b, o, cf, cg)) pos

-- a pending job that is due still has a tick to use
due_owing : (set : List Task) (p q e : ℕ) (h : List Row) (xs : List KeptRelease) → Each (IsLiveOk set (Virtual p q) h) xs → none_below set (Virtual p q) true (q * e + 1) xs ≡ false → 1 ≤ total (dues set p q e h) xs
due_owing set p q e h [] ok f = cc
due_owing set p q e h (x ∷ xs) ok f = go (due_owing set p q e h xs ok.1) (nat_le (key set (Virtual p q) true x) (q * e)) refl
  where
    go : (none_below set (Virtual p q) true (q * e + 1) xs ≡ false → 1 ≤ total (dues set p q e h) xs) → (b : Bool) → nat_le (key set (Virtual p q) true x) (q * e) ≡ b → 1 ≤ total (dues set p q e h) (x ∷ xs)
    go ih true m =
        let r : used h x.job + 1 ≤ own_in (task_at set x.job.task.0) = ok.0.own in
        rw m (omega (arith, r))
    go ih false m =
        let l : q * e + 1 ≤ key set (Virtual p q) true x = let z : q * e < key set (Virtual p q) true x = leb-false _ _ m in omega (arith, z) in
        let f' = rw (le-leb _ _ l) at f in
        rw m (let i : 1 ≤ total (dues set p q e h) xs = ih f' in omega (arith, i))

-- the law of high mode: no pending job has a deadline of at most the ticks
pub high_law : (set : List Task) (p q : ℕ) (h : List Row) → AllByRecursion IsTask set → Holds set (Virtual p q) → Legal set (Virtual p q) h → high_mode (Virtual p q) h ≡ true → none_below set (Virtual p q) true (q * ticks h + 1) (pending set h) ≡ true
high_law set p q h s holds l m = go (none_below set (Virtual p q) true (q * ticks h + 1) (pending set h)) refl
  where
    go : (b : Bool) → none_below set (Virtual p q) true (q * ticks h + 1) (pending set h) ≡ b → b ≡ true
    go true f = refl
    go false f =
        let c = high_phase set p q (ticks h) s holds.0 holds.1 h l m in
        let o : 1 ≤ due set p q (ticks h) h = due_owing set p q (ticks h) h (pending set h) (live_ok set (Virtual p q) h s l) f in
        let sum : sum_numbered set c.ledger.demand 1 ≤ (c.mid - c.ledger.start) + (ticks h - c.mid) = share_sum set p q (ticks h) h c.ledger.start c.mid c.ledger.demand s holds c.ledger.each in
        let past = c.past in
        let order = c.ledger.order in
        let balance = c.ledger.balance in
        absurd (omega (arith, o, sum, past, order, balance))
