-- Before the switch: the ledger of a high job that is released at a and has a deadline of at most e.
use Rattle.std.proofs.Common.{◌≡◌, ℕ, ◌+◌, ◌-◌, ◌*◌, ◌≤◌, Bool, true, false, not, ◌||◌, List, ◌∷◌, cond, nat_le, nat_lt, refl, ap, ◌∙◌, arith, leb-true, ltb-false, le-leb, mul-le-mul_right, le_of_mul-le-mul_right}
use Rattle.mc_task.specs.declared.task.Rule.TheVariants.{Virtual}
use Rattle.mc_task.specs.declared.task.Task.{Task}
use Rattle.mc_task.specs.declared.task.JobId.{JobId}
use Rattle.mc_task.specs.TaskSet.{task_at}
use Rattle.mc_model.specs.declared.row.How.{How}
use Rattle.mc_model.specs.declared.row.Row.{Row}
use Rattle.mc_model.specs.declared.row.Row.TheVariants.{Tick}
use Rattle.mc_model.specs.TaskNumbers.{period_in, low_in, own_in, is_high_in}
use Rattle.mc_model.specs.Pending.{KeptRelease}
use Rattle.mc_model.specs.Rows.{same_job, used}
use Rattle.mc_model.specs.Legal.{none_below}
use Rattle.mc_model.specs.Mode.{high_mode}
use Rattle.mc_model.specs.Key.{key}
use Rattle.mc_model.specs.Late.{deadline}
use Rattle.mc_model.proofs.Fold.{pending, stays}
use Rattle.mc_model.specs.Sums.{total}
use Rattle.mc_model.proofs.Lists.{Each, Each-all, Each-map}
use Rattle.mc_model.proofs.Sums.{total_spend}
use Rattle.mc_model.proofs.Steps.{TickFits}
use Rattle.mc_model.proofs.Live.{IsLiveOk}
use Rattle.demand_law.proofs.Keys.{weight_falls, is_taken, least_low}

-- a job that counts with its low budget, by its virtual key
abbrev pub is_old : List Task → ℕ → KeptRelease → Bool
is_old set a x = not (is_high_in (task_at set x.job.task.0)) || nat_lt x.release a

-- the greatest virtual key that counts: e in units of 1 / q, where from a on p units are a tick
abbrev pub limit : ℕ → ℕ → ℕ → ℕ → ℕ
limit p q e a = q * a + p * (e - a)

-- the job counts: by its virtual key, or by its deadline
abbrev pub counts : List Task → ℕ → ℕ → ℕ → ℕ → KeptRelease → Bool
counts set p q e a x = cond (is_old set a x) (nat_le (key set (Virtual p q) false x) (limit p q e a)) (nat_le (deadline set x) e)

-- the budget by which a job counts
abbrev pub budget : List Task → ℕ → KeptRelease → ℕ
budget set a x = cond (is_old set a x) (low_in (task_at set x.job.task.0)) (own_in (task_at set x.job.task.0))

-- what a job that counts may still use of the budget by which it counts
abbrev pub owes : List Task → ℕ → ℕ → ℕ → ℕ → List Row → KeptRelease → ℕ
owes set p q e a h x = cond (counts set p q e a x) (budget set a x - used h x.job) 0

-- what the pending jobs that count may still use of their budgets
abbrev pub owed : List Task → ℕ → ℕ → ℕ → ℕ → List Row → ℕ
owed set p q e a h = total (owes set p q e a h) (pending set h)

-- a job that is released at a or later, and has a virtual key of at most the limit, has a deadline of at most
-- e
early_deadline : (p q r n a e : ℕ) → 1 ≤ p → p ≤ q → a ≤ r → a ≤ e → q * r + p * n ≤ q * a + p * (e - a) → r + n ≤ e
early_deadline p q r n a e pos pq ar ae h =
    let i = r - a in
    let x : q * r ≡ q * a + q * i = ap (λ (z : ℕ). q * z) (sum a r ar) ∙ omega arith in
    let y : p * i ≤ q * i = mul-le-mul_right i pq in
    let z : (i + n) * p ≤ (e - a) * p = omega (arith, x, y, h) in
    let w : i + n ≤ e - a = le_of_mul-le-mul_right {k = p} z pos in
    omega (arith, w)
  where
    sum : (a r : ℕ) → a ≤ r → r ≡ a + (r - a)
    sum a r h = omega arith

-- a job with a virtual key of at most the limit counts
pub counts_near : (set : List Task) (p q e a : ℕ) (x : KeptRelease) → 1 ≤ p → p ≤ q → a ≤ e → nat_le (key set (Virtual p q) false x) (limit p q e a) ≡ true → counts set p q e a x ≡ true
counts_near set p q e a x pos pq ae near = go (is_high_in (task_at set x.job.task.0)) refl (nat_lt x.release a) refl
  where
    go : (b : Bool) → is_high_in (task_at set x.job.task.0) ≡ b → (c : Bool) → nat_lt x.release a ≡ c → counts set p q e a x ≡ true
    go false m c n = rw m near'
      where
        near' : nat_le (q * x.release + cond false (p * period_in (task_at set x.job.task.0)) (q * period_in (task_at set x.job.task.0))) (limit p q e a) ≡ true
        near' = rw m at near
    go true m true n = rw (m, n) near'
      where
        near' : nat_le (q * x.release + cond true (p * period_in (task_at set x.job.task.0)) (q * period_in (task_at set x.job.task.0))) (limit p q e a) ≡ true
        near' = rw m at near
    go true m false n =
        let k = leb-true _ _ (rw m at near) in
        let t : x.release + period_in (task_at set x.job.task.0) ≤ e = early_deadline p q x.release (period_in (task_at set x.job.task.0)) a e pos pq (ltb-false _ _ n) ae k in
        rw (m, n) (le-leb _ _ t)

-- a pending job has not used up the budget by which it counts
room : (set : List Task) (p q a : ℕ) (g : List Row) (x : KeptRelease) → high_mode (Virtual p q) g ≡ false → IsLiveOk set (Virtual p q) g x → used g x.job + 1 ≤ budget set a x
room set p q a g x low ok = go (is_old set a x)
  where
    go : (b : Bool) → used g x.job + 1 ≤ cond b (low_in (task_at set x.job.task.0)) (own_in (task_at set x.job.task.0))
    go true = ok.low low
    go false = ok.own

-- a tick of a job that counts lessens what it owes
spends : (set : List Task) (p q e a : ℕ) (j : JobId) (how : How) (g : List Row) (x : KeptRelease) → 1 ≤ p → p ≤ q → a ≤ e → high_mode (Virtual p q) g ≡ false → IsLiveOk set (Virtual p q) g x → nat_le (key set (Virtual p q) false x) (limit p q e a) ≡ true →
    same_job j x.job ≡ true → owes set p q e a (Tick j how ∷ g) x + 1 ≤ owes set p q e a g x
spends set p q e a j how g x pos pq ae low ok near m =
    let c = counts_near set p q e a x pos pq ae near in
    let r = room set p q a g x low ok in
    rw (c, m) (omega (arith, r))

-- in low mode, while a job with a virtual key of at most the limit is pending, a tick lessens what is owed
pub busy_tick : (set : List Task) (p q e a : ℕ) (j : JobId) (how : How) (g : List Row) → 1 ≤ p → p ≤ q → a ≤ e → Each (IsLiveOk set (Virtual p q) g) (pending set g) → TickFits set (Virtual p q) j how g → high_mode (Virtual p q) g ≡ false →
    none_below set (Virtual p q) false (limit p q e a + 1) (pending set g) ≡ false → owed set p q e a (Tick j how ∷ g) + 1 ≤ owed set p q e a g
busy_tick set p q e a j how g pos pq ae ok fits low busy =
    total_spend (owes set p q e a g) (owes set p q e a (Tick j how ∷ g)) (stays set j how) (is_taken set (Virtual p q) false j (pending set g)) (pending set g)
    (Each-all (λ x. weight_falls _ _ _ _) (pending set g))
    (Each-map {P = IsLiveOk set (Virtual p q) g} (λ x o t. let m = least_low set (Virtual p q) false (limit p q e a) j (pending set g) x busy t in spends set p q e a j how g x pos pq ae low o m.1 m.0) (pending set g) ok)
    (rw low at fits.least)
