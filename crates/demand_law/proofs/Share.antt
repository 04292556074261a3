-- What each task asked for since boundary t, up to the deadline e, where overruns count only for the releases
-- from a on.
use Rattle.std.proofs.Common.{◌≡◌, ℕ, ◌+◌, ◌-◌, ◌*◌, ◌≤◌, min, Bool, true, false, List, ◌∷◌, cond, ◌==◌, refl, sym, ap, ap₂, subst, arith, le_refl, le_trans, eqb-true, mul-le-mul_left, mul-le-mul_right}
use Rattle.mc_task.specs.declared.task.Task.{Task}
use Rattle.mc_task.specs.declared.task.JobId.{JobId}
use Rattle.mc_task.specs.TaskSet.{task_at, IsIn}
use Rattle.mc_model.specs.declared.row.How.{How}
use Rattle.mc_model.specs.declared.row.Row.{Row}
use Rattle.mc_model.specs.declared.row.Row.TheVariants.{Release, Tick}
use Rattle.mc_model.specs.TaskNumbers.{period_in, low_in, own_in, is_high_in}
use Rattle.mc_model.specs.Rows.{ticks, next_release}
use Rattle.mc_model.proofs.NumberedSums.{sum_numbered, added, sum-added}
use Rattle.demand_law.proofs.Releases.{more_next, times_sub, next_release-grows, more_reach}
use Rattle.mc_model.proofs.Booleans.{eqb-refl}

-- what a high task may have asked for by its next release n
abbrev pub grant : ℕ → ℕ → ℕ → ℕ → ℕ → ℕ
grant low own t a n = low * (min n a - t) + own * (n - a)

-- the grant by a later release is no less
grant-mono : (low own t a m n : ℕ) → m ≤ n → grant low own t a m ≤ grant low own t a n
grant-mono low own t a m n h =
    let x : low * (min m a - t) ≤ low * (min n a - t) = mul-le-mul_left low (omega arith) in
    let y : own * (m - a) ≤ own * (n - a) = mul-le-mul_left own (omega arith) in
    omega (arith, x, y)

-- the grant is no less than by the low budget alone
grant_all : (low own t a y : ℕ) → t ≤ a → low ≤ own → low * (y - t) ≤ grant low own t a y
grant_all low own t a y h o =
    let x : low * (y - t) ≤ low * ((min y a - t) + (y - a)) = mul-le-mul_left low (omega arith) in
    let z : low * (y - a) ≤ own * (y - a) = mul-le-mul_right (y - a) o in
    omega (arith, x, z)

-- if the next release n is before a, what was asked for is within the low budget alone
old_plain : (d low own n t a r p : ℕ) → d * p ≤ grant low own t a n → n ≤ r → r + 1 ≤ a → d * p ≤ low * (n - t)
old_plain d low own n t a r p h u v =
    let x : min n a ≡ n = omega arith in
    let y : n - a ≡ 0 = omega arith in
    let z : low * (min n a - t) + own * (n - a) ≡ low * (n - t) + own * 0 = ap₂ (λ (i j : ℕ). low * (i - t) + own * j) x y in
    omega (arith, h, z)

-- one more release before a stays within the grant, by the next release
pub old_next : (d low own n t a r p : ℕ) → d * p ≤ grant low own t a n → n ≤ r → r + 1 ≤ a → t ≤ r → low ≤ own → (d + low) * p ≤ grant low own t a (r + p)
old_next d low own n t a r p h u v w o =
    let x : (d + low) * p ≤ low * ((r + p) - t) = more_next d low n t r p (old_plain d low own n t a r p h u v) u w in
    le_trans x (grant_all low own t a (r + p) (omega arith) o)

-- one more release before a stays within the time up to e, by its virtual key
pub old_reach : (d low own n t a e r p ps q : ℕ) → d * p ≤ grant low own t a n → n ≤ r → r + 1 ≤ a → t ≤ r → low ≤ own → ps ≤ q → q * r + ps * p ≤ q * a + ps * (e - a) → (d + low) * (ps * p) ≤ low * (q * (a - t)) + own * (ps * (e - a))
old_reach d low own n t a e r p ps q h u v w o s near =
    let z : q * (a - t) + q * t ≡ q * a = times_sub q a t (omega arith) in
    let x : (d + low) * (ps * p) ≤ low * (q * (a - t) + ps * (e - a)) =
    more_reach d low n t r p (ps * p) (q * (a - t) + ps * (e - a)) q (old_plain d low own n t a r p h u v) u w (mul-le-mul_right p s) (omega (arith, z, near)) in
    let y : low * (ps * (e - a)) ≤ own * (ps * (e - a)) = mul-le-mul_right (ps * (e - a)) o in
    omega (arith, x, y)

-- one more release from a on adds its own budget to what was asked for
new_plain : (d low own n t a r p : ℕ) → d * p ≤ grant low own t a n → n ≤ r → a ≤ r → (d + own) * p ≤ low * (a - t) + own * ((r + p) - a)
new_plain d low own n t a r p h u v =
    let x : grant low own t a n ≤ grant low own t a r = grant-mono low own t a n r u in
    let y : min r a ≡ a = omega arith in
    let z : low * (min r a - t) ≡ low * (a - t) = ap (λ (i : ℕ). low * (i - t)) y in
    let s : (r + p) - a ≡ (r - a) + p = omega arith in
    rw s (omega (arith, h, x, z))

-- one more release from a on stays within the grant, by the next release
pub new_next : (d low own n t a r p : ℕ) → d * p ≤ grant low own t a n → n ≤ r → a ≤ r → (d + own) * p ≤ grant low own t a (r + p)
new_next d low own n t a r p h u v =
    let y : min (r + p) a ≡ a = omega arith in
    rw y (new_plain d low own n t a r p h u v)

-- one more release from a on stays within the time up to e, by its deadline
pub new_reach : (d low own n t a e r p ps q : ℕ) → d * p ≤ grant low own t a n → n ≤ r → a ≤ r → ps ≤ q → r + p ≤ e → (d + own) * (ps * p) ≤ low * (q * (a - t)) + own * (ps * (e - a))
new_reach d low own n t a e r p ps q h u v s near =
    let w : own * ((r + p) - a) ≤ own * (e - a) = mul-le-mul_left own (omega arith) in
    let x : ps * ((d + own) * p) ≤ ps * (low * (a - t) + own * (e - a)) = mul-le-mul_left ps (le_trans (new_plain d low own n t a r p h u v) (omega (arith, w))) in
    let y : ps * (low * (a - t)) ≤ q * (low * (a - t)) = mul-le-mul_right (low * (a - t)) s in
    omega (arith, x, y)

-- one more release of a low task stays within the time up to e, by its key
pub low_reach : (d b n t a e r p ps q : ℕ) → d * p ≤ b * (n - t) → n ≤ r → t ≤ r → t ≤ a → q * r + q * p ≤ q * a + ps * (e - a) → (d + b) * (q * p) ≤ b * (q * (a - t) + ps * (e - a))
low_reach d b n t a e r p ps q h u v w near =
    let z : q * (a - t) + q * t ≡ q * a = times_sub q a t w in
    more_reach d b n t r p (q * p) (q * (a - t) + ps * (e - a)) q h u v (le_refl _) (omega (arith, z, near))

-- the d ticks that task number k asked for since t are within its budgets by the time to its next release, and by
-- the time to e; p / q is the scale
pub record IsShare (set : List Task) (p q e : ℕ) (h : List Row) (t a k d : ℕ) : Type 0 where
  pub low_next : is_high_in (task_at set k) ≡ false → d * period_in (task_at set k) ≤ low_in (task_at set k) * (next_release set h k - t)
  pub low_reach : is_high_in (task_at set k) ≡ false → d * (q * period_in (task_at set k)) ≤ low_in (task_at set k) * (q * (a - t) + p * (e - a))
  pub high_next : is_high_in (task_at set k) ≡ true → d * period_in (task_at set k) ≤ grant (low_in (task_at set k)) (own_in (task_at set k)) t a (next_release set h k)
  pub high_reach : is_high_in (task_at set k) ≡ true → d * (p * period_in (task_at set k)) ≤ low_in (task_at set k) * (q * (a - t)) + own_in (task_at set k) * (p * (e - a))

-- a task that asked for nothing is within its share
pub no_share : (set : List Task) (p q e : ℕ) (h : List Row) (t a k : ℕ) → IsShare set p q e h t a k 0
no_share set p q e h t a k = record { low_next = λ m. omega arith; low_reach = λ m. omega arith; high_next = λ m. omega arith; high_reach = λ m. omega arith }

-- a release that does not count leaves a task within its share
pub share_same : (set : List Task) (p q e : ℕ) (j : JobId) (kept : Bool) (g : List Row) (t a k d : ℕ) → next_release set g j.task.0 ≤ ticks g → IsShare set p q e g t a k d → IsShare set p q e (Release j kept ∷ g) t a k d
share_same set p q e j kept g t a k d soon h =
    let n : next_release set g k ≤ next_release set (Release j kept ∷ g) k = next_release-grows set j kept g k soon in
    record {
      low_next = λ m. le_trans (h.low_next m) (mul-le-mul_left _ (omega (arith, n)));
      low_reach = h.low_reach;
      high_next = λ m. le_trans (h.high_next m) (grant-mono _ _ t a _ _ n);
      high_reach = h.high_reach;
    }

-- the ways in which a release at r counts, and with which budget
pub data Counts (set : List Task) (p q e a r k : ℕ) : ℕ → Type 0 where
  low_task : is_high_in (task_at set k) ≡ false → q * r + q * period_in (task_at set k) ≤ q * a + p * (e - a) → Counts set p q e a r k (low_in (task_at set k))
  old_high : is_high_in (task_at set k) ≡ true → r + 1 ≤ a → q * r + p * period_in (task_at set k) ≤ q * a + p * (e - a) → Counts set p q e a r k (low_in (task_at set k))
  new_high : is_high_in (task_at set k) ≡ true → a ≤ r → r + period_in (task_at set k) ≤ e → Counts set p q e a r k (own_in (task_at set k))

-- no level is low and high
clash : (b : Bool) → b ≡ false → b ≡ true → ⊥
clash b h k = cc

-- a release that counts leaves its task within its share, with the budget by which the release counts
share_own : (set : List Task) (p q e : ℕ) (j : JobId) (kept : Bool) (g : List Row) (t a d b : ℕ) → p ≤ q → t ≤ ticks g → t ≤ a → low_in (task_at set j.task.0) ≤ own_in (task_at set j.task.0) → next_release set g j.task.0 ≤ ticks g →
    Counts set p q e a (ticks g) j.task.0 b → IsShare set p q e g t a j.task.0 d → IsShare set p q e (Release j kept ∷ g) t a j.task.0 (d + b)
share_own set p q e j kept g t a d b pq tg ta order soon (low_task m near) h = record {
  low_next = λ n. rw (eqb-refl j.task.0) (more_next d _ (next_release set g j.task.0) t (ticks g) _ (h.low_next m) soon tg);
  low_reach = λ n. low_reach d _ (next_release set g j.task.0) t a e (ticks g) _ p q (h.low_next m) soon tg ta near;
  high_next = λ n. absurd (clash _ m n);
  high_reach = λ n. absurd (clash _ m n);
}
share_own set p q e j kept g t a d b pq tg ta order soon (old_high m old near) h = record {
  low_next = λ n. absurd (clash _ n m);
  low_reach = λ n. absurd (clash _ n m);
  high_next = λ n. rw (eqb-refl j.task.0) (old_next d _ _ (next_release set g j.task.0) t a (ticks g) _ (h.high_next m) soon old tg order);
  high_reach = λ n. old_reach d _ _ (next_release set g j.task.0) t a e (ticks g) _ p q (h.high_next m) soon old tg order pq near;
}
share_own set p q e j kept g t a d b pq tg ta order soon (new_high m new near) h = record {
  low_next = λ n. absurd (clash _ n m);
  low_reach = λ n. absurd (clash _ n m);
  high_next = λ n. rw (eqb-refl j.task.0) (new_next d _ _ (next_release set g j.task.0) t a (ticks g) _ (h.high_next m) soon new);
  high_reach = λ n. new_reach d _ _ (next_release set g j.task.0) t a e (ticks g) _ p q (h.high_next m) soon new pq near;
}

-- a release that counts leaves the other tasks within their shares
pub share_more : (set : List Task) (p q e : ℕ) (j : JobId) (kept : Bool) (g : List Row) (t a k d b : ℕ) → p ≤ q → t ≤ ticks g → t ≤ a → low_in (task_at set j.task.0) ≤ own_in (task_at set j.task.0) → next_release set g j.task.0 ≤ ticks g →
    Counts set p q e a (ticks g) j.task.0 b → IsShare set p q e g t a k d → (c : Bool) → (j.task.0 == k) ≡ c → IsShare set p q e (Release j kept ∷ g) t a k (cond c (d + b) d)
share_more set p q e j kept g t a k d b pq tg ta order soon counts h true m =
    let i : j.task.0 ≡ k = eqb-true _ _ m in
    subst (λ n. IsShare set p q e (Release j kept ∷ g) t a n (d + b)) i
    (share_own set p q e j kept g t a d b pq tg ta order soon counts (subst (λ n. IsShare set p q e g t a n d) (sym i) h))
share_more set p q e j kept g t a k d b pq tg ta order soon counts h false m = share_same set p q e j kept g t a k d soon h

-- a ledger: the ticks since start, and those that are still owed, are at most what the tasks asked for since
-- then
pub record Ledger (set : List Task) (p q e a : ℕ) (h : List Row) (owed : ℕ) : Type 0 where
  pub start : ℕ
  pub demand : ℕ → ℕ
  pub early : start ≤ ticks h
  pub order : start ≤ a
  pub balance : ticks h + owed ≤ start + sum_numbered set demand 1
  pub each : (k : ℕ) → IsShare set p q e h start a k (demand k)

-- with nothing owed, a ledger may start now
pub ledger_fresh : (set : List Task) (p q e a : ℕ) (h : List Row) → ticks h ≤ a → Ledger set p q e a h 0
ledger_fresh set p q e a h o = record {
  start = ticks h;
  demand = λ k. 0;
  early = le_refl _;
  order = o;
  balance = omega arith;
  each = λ k. no_share set p q e h (ticks h) a k;
}

-- a ledger is a ledger for less that is owed
pub ledger_less : (set : List Task) (p q e a : ℕ) (h : List Row) (m n : ℕ) → m ≤ n → Ledger set p q e a h n → Ledger set p q e a h m
ledger_less set p q e a h m n o c = record {
  start = c.start;
  demand = c.demand;
  early = c.early;
  order = c.order;
  balance = let b = c.balance in omega (arith, b, o);
  each = c.each;
}

-- a ledger stays one after a tick that lessens what is owed
pub ledger_tick : (set : List Task) (p q e a : ℕ) (j : JobId) (how : How) (g : List Row) (m n : ℕ) → m + 1 ≤ n → Ledger set p q e a g n → Ledger set p q e a (Tick j how ∷ g) m
ledger_tick set p q e a j how g m n o c = record {
  start = c.start;
  demand = c.demand;
  early = let b = c.early in omega (arith, b);
  order = c.order;
  balance = let b = c.balance in omega (arith, b, o);
  each = λ k. let s = c.each k in record { low_next = s.low_next; low_reach = s.low_reach; high_next = s.high_next; high_reach = s.high_reach };
}

-- a ledger stays one after a release that does not count
pub ledger_same : (set : List Task) (p q e a : ℕ) (j : JobId) (kept : Bool) (g : List Row) (n : ℕ) → next_release set g j.task.0 ≤ ticks g → Ledger set p q e a g n → Ledger set p q e a (Release j kept ∷ g) n
ledger_same set p q e a j kept g n soon c = record {
  start = c.start;
  demand = c.demand;
  early = c.early;
  order = c.order;
  balance = c.balance;
  each = λ k. share_same set p q e j kept g c.start a k (c.demand k) soon (c.each k);
}

-- a ledger stays one after a release that counts
pub ledger_more : (set : List Task) (p q e a : ℕ) (j : JobId) (kept : Bool) (g : List Row) (n b : ℕ) → p ≤ q → IsIn set j.task.0 → low_in (task_at set j.task.0) ≤ own_in (task_at set j.task.0) → next_release set g j.task.0 ≤ ticks g →
    Counts set p q e a (ticks g) j.task.0 b → Ledger set p q e a g n → Ledger set p q e a (Release j kept ∷ g) (b + n)
ledger_more set p q e a j kept g n b pq inside order soon counts c =
    let s = sum-added set c.demand j.task.0 b 1 inside.0 (let last = inside.1 in omega (arith, last)) in
    let o = c.balance in
    record {
      start = c.start;
      demand = added c.demand j.task.0 b;
      early = c.early;
      order = c.order;
      balance = omega (arith, s, o);
      each = λ k. share_more set p q e j kept g c.start a k (c.demand k) b pq c.early c.order order soon counts (c.each k) (j.task.0 == k) refl;
    }
