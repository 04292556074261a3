-- In low mode: a bound on the ticks that were spent since the last moment at which no job with a key of at
-- most kappa was pending.
use Rattle.std.proofs.Common.{◌≡◌, ℕ, ◌+◌, ◌-◌, ◌*◌, ◌≤◌, Bool, true, false, List, [], ◌∷◌, Option, cond, nat_le, ◌==◌, refl, sym, subst, arith, le_refl, leb-true, leb-false, le-leb, eqb-true, mul-le-mul_left, le_trans}
use Rattle.std.specs.List.{AllByRecursion}
use Rattle.mc_task.specs.declared.task.Rule.{Rule}
use Rattle.mc_task.specs.declared.task.Task.{Task}
use Rattle.mc_task.specs.declared.task.JobId.{JobId}
use Rattle.mc_task.specs.TaskSet.{task_at, IsTask, IsIn}
use Rattle.mc_model.specs.declared.row.How.{How}
use Rattle.mc_model.specs.declared.row.Row.{Row}
use Rattle.mc_model.specs.declared.row.Row.TheVariants.{Release, Tick, Idle}
use Rattle.mc_model.specs.TaskNumbers.{period_in}
use Rattle.mc_model.specs.Pending.{KeptRelease}
use Rattle.mc_model.specs.Rows.{same_job, ticks, used, next_release}
use Rattle.mc_model.specs.Legal.{none_below}
use Rattle.mc_model.specs.Mode.{high_mode}
use Rattle.mc_model.specs.Key.{key, scale, low_offset}
use Rattle.mc_model.proofs.Fold.{pending, stays, Legal}
use Rattle.mc_model.specs.Sums.{total}
use Rattle.mc_model.proofs.Lists.{Each, Each-all, Each-map}
use Rattle.mc_model.proofs.Sums.{total_spend}
use Rattle.mc_model.proofs.Steps.{ReleaseFits, release_fits, TickFits, tick_fits, idle_fits}
use Rattle.mc_model.proofs.Live.{IsLiveOk, live_ok, low_budget}
use Rattle.mc_model.proofs.NumberedSums.{sum_numbered, added, sum-added}
use Rattle.demand_law.proofs.Keys.{above, weight_falls, weight-le, none_below-filter, is_taken, least_low}
use Rattle.demand_law.proofs.Releases.{next_release-grows, more_next, more_reach}
use Rattle.mc_model.proofs.Booleans.{or_right, eqb-refl}
use Rattle.std.proofs.lemmas.Bool.{and_parts}

-- what a job with a key of at most kappa may still use of its budget
abbrev pub weight : List Task → Rule → ℕ → List Row → KeptRelease → ℕ
weight set rule kappa h x = cond (nat_le (key set rule false x) kappa) (low_budget rule (task_at set x.job.task.0) - used h x.job) 0

-- what the pending jobs with keys of at most kappa may still use of their budgets
abbrev pub debt : List Task → Rule → ℕ → List Row → ℕ
debt set rule kappa h = total (weight set rule kappa h) (pending set h)

-- task number k asked for d ticks since t: within its budget by its next release, and by kappa
pub record IsDemand (set : List Task) (rule : Rule) (kappa : ℕ) (h : List Row) (t k d : ℕ) : Type 0 where
  pub next : d * period_in (task_at set k) ≤ low_budget rule (task_at set k) * (next_release set h k - t)
  pub reach : d * low_offset rule (task_at set k) ≤ low_budget rule (task_at set k) * (kappa - scale rule * t)

-- the ticks since start, and those still owed, are at most what the tasks asked for since then
pub record LowDemand (set : List Task) (rule : Rule) (kappa : ℕ) (h : List Row) : Type 0 where
  pub start : ℕ
  pub demand : ℕ → ℕ
  pub early : start ≤ ticks h
  pub balance : ticks h + debt set rule kappa h ≤ start + sum_numbered set demand 1
  pub each : (k : ℕ) → IsDemand set rule kappa h start k (demand k)

-- if all keys are above kappa, nothing is owed
no_weight : (set : List Task) (rule : Rule) (kappa : ℕ) (h : List Row) (xs : List KeptRelease) → none_below set rule false (kappa + 1) xs ≡ true → total (weight set rule kappa h) xs ≡ 0
no_weight set rule kappa h [] e = refl
no_weight set rule kappa h (x ∷ xs) e =
    let p = and_parts _ _ e in
    let f = above (key set rule false x) kappa p.0 in
    let ih : total (weight set rule kappa h) xs ≡ 0 = no_weight set rule kappa h xs p.1 in
    rw f (omega (arith, ih))

-- a tick of a job with a key of at most kappa lessens what it owes
spends : (set : List Task) (rule : Rule) (kappa : ℕ) (j : JobId) (how : How) (g : List Row) (x : KeptRelease) → high_mode rule g ≡ false → IsLiveOk set rule g x → nat_le (key set rule false x) kappa ≡ true →
    same_job j x.job ≡ true → weight set rule kappa (Tick j how ∷ g) x + 1 ≤ weight set rule kappa g x
spends set rule kappa j how g x low ok near m =
    let room : used g x.job + 1 ≤ low_budget rule (task_at set x.job.task.0) = ok.low low in
    rw (near, m) (omega arith)

-- while a job with a key of at most kappa is pending, each tick is of such a job, and lessens what is owed
tick_less : (set : List Task) (rule : Rule) (kappa : ℕ) (j : JobId) (how : How) (g : List Row) →
    Each (IsLiveOk set rule g) (pending set g) → TickFits set rule j how g → high_mode rule g ≡ false →
    none_below set rule false (kappa + 1) (pending set g) ≡ false → debt set rule kappa (Tick j how ∷ g) + 1 ≤ debt set rule kappa g
tick_less set rule kappa j how g ok fits low busy =
    total_spend (weight set rule kappa g) (weight set rule kappa (Tick j how ∷ g)) (stays set j how) (is_taken set rule false j (pending set g)) (pending set g)
    (Each-all (λ x. weight_falls _ _ _ _) (pending set g))
    (Each-map {P = IsLiveOk set rule g} (λ x o t. let m = least_low set rule false kappa j (pending set g) x busy t in spends set rule kappa j how g x low o m.1 m.0) (pending set g) ok)
    (rw low at fits.least)

-- if no job with a key of at most kappa is pending, the bound on the ticks that were spent starts again
fresh : (set : List Task) (rule : Rule) (kappa : ℕ) (h : List Row) → none_below set rule false (kappa + 1) (pending set h) ≡ true → LowDemand set rule kappa h
fresh set rule kappa h e =
    let z = no_weight set rule kappa h (pending set h) e in
    record {
      start = ticks h;
      demand = λ k. 0;
      early = le_refl _;
      balance = omega (arith, z);
      each = λ k. record { next = omega arith; reach = omega arith };
    }

-- the bound on the ticks that were spent, after a tick while a job with a key of at most kappa is pending
ticked : (set : List Task) (rule : Rule) (kappa : ℕ) (j : JobId) (how : How) (g : List Row) →
    Each (IsLiveOk set rule g) (pending set g) → TickFits set rule j how g → high_mode rule g ≡ false →
    none_below set rule false (kappa + 1) (pending set g) ≡ false → LowDemand set rule kappa g → LowDemand set rule kappa (Tick j how ∷ g)
ticked set rule kappa j how g ok fits low busy c =
    let less : debt set rule kappa (Tick j how ∷ g) + 1 ≤ debt set rule kappa g = tick_less set rule kappa j how g ok fits low busy in
    record {
      start = c.start;
      demand = c.demand;
      early = let e = c.early in omega arith;
      balance = let b = c.balance in omega (arith, less);
      each = λ k. let d = c.each k in record { next = d.next; reach = d.reach };
    }

-- a release that does not count leaves what the task asked for as it is
demand_same : (set : List Task) (rule : Rule) (kappa : ℕ) (j : JobId) (kept : Bool) (g : List Row) (t k d : ℕ) → next_release set g j.task.0 ≤ ticks g → IsDemand set rule kappa g t k d → IsDemand set rule kappa (Release j kept ∷ g) t k d
demand_same set rule kappa j kept g t k d soon h =
    let n : next_release set g k ≤ next_release set (Release j kept ∷ g) k = next_release-grows set j kept g k soon in
    record { next = le_trans h.next (mul-le-mul_left _ (omega (arith, n))); reach = h.reach }

-- a release that counts adds its job's budget to what the task asked for
demand_more : (set : List Task) (rule : Rule) (kappa : ℕ) (j : JobId) (g : List Row) (t k d : ℕ) → ((t : Option Task) → low_offset rule t ≤ scale rule * period_in t) → t ≤ ticks g → next_release set g j.task.0 ≤ ticks g →
    scale rule * ticks g + low_offset rule (task_at set j.task.0) ≤ kappa → IsDemand set rule kappa g t k d → (b : Bool) → (j.task.0 == k) ≡ b → IsDemand set rule kappa (Release j true ∷ g) t k (cond b (d + low_budget rule (task_at set j.task.0)) d)
demand_more set rule kappa j g t k d slack early soon near h true m =
    let e : j.task.0 ≡ k = eqb-true _ _ m in
    subst (λ i. IsDemand set rule kappa (Release j true ∷ g) t i (d + low_budget rule (task_at set j.task.0))) e
    (let h' = subst (λ i. IsDemand set rule kappa g t i d) (sym e) h in
    record {
      next = rw (eqb-refl j.task.0) (more_next d (low_budget rule (task_at set j.task.0)) (next_release set g j.task.0) t (ticks g) (period_in (task_at set j.task.0)) h'.next soon early);
      reach = more_reach d (low_budget rule (task_at set j.task.0)) (next_release set g j.task.0) t (ticks g) (period_in (task_at set j.task.0)) (low_offset rule (task_at set j.task.0)) (kappa - scale rule * t) (scale rule) h'.next soon early (slack _) (past (scale rule) (ticks g) (low_offset rule (task_at set j.task.0)) t kappa early near);
    })
  where
    past : (q r o t kappa : ℕ) → t ≤ r → q * r + o ≤ kappa → q * r + o ≤ q * t + (kappa - q * t)
    past q r o t kappa v near =
        let x : q * t ≤ q * r = mul-le-mul_left q v in
        omega (arith, x, near)
demand_more set rule kappa j g t k d slack early soon near h false m = demand_same set rule kappa j true g t k d soon h

-- the bound on the ticks that were spent, after a release that is kept
released_in : (set : List Task) (rule : Rule) (kappa : ℕ) (j : JobId) (g : List Row) → ((t : Option Task) → low_offset rule t ≤ scale rule * period_in t) → IsIn set j.task.0 →
    ReleaseFits set rule j true g → LowDemand set rule kappa g → LowDemand set rule kappa (Release j true ∷ g)
released_in set rule kappa j g slack inside fits c = go (nat_le (key set rule false (record { job = j; release = ticks g })) kappa) refl
  where
    go : (b : Bool) → nat_le (key set rule false (record { job = j; release = ticks g })) kappa ≡ b → LowDemand set rule kappa (Release j true ∷ g)
    go true m =
        let s = sum-added set c.demand j.task.0 (low_budget rule (task_at set j.task.0)) 1 inside.0 (let last = inside.1 in omega arith) in
        let w = weight-le (nat_le (key set rule false (record { job = j; release = ticks g })) kappa) (low_budget rule (task_at set j.task.0)) (used g j) in
        let near : scale rule * ticks g + low_offset rule (task_at set j.task.0) ≤ kappa = leb-true _ _ m in
        let b = c.balance in
        record {
          start = c.start;
          demand = added c.demand j.task.0 (low_budget rule (task_at set j.task.0));
          early = c.early;
          balance = omega (arith, s, w, b);
          each = λ k. demand_more set rule kappa j g c.start k (c.demand k) slack c.early fits.soon near (c.each k) (j.task.0 == k) refl;
        }
    go false m =
        let b = c.balance in
        record {
          start = c.start;
          demand = c.demand;
          early = c.early;
          balance = rw m (omega (arith, b));
          each = λ k. demand_same set rule kappa j true g c.start k (c.demand k) fits.soon (c.each k);
        }

-- the bound on the ticks that were spent, after a release that is dropped
released_out : (set : List Task) (rule : Rule) (kappa : ℕ) (j : JobId) (g : List Row) → ReleaseFits set rule j false g → LowDemand set rule kappa g → LowDemand set rule kappa (Release j false ∷ g)
released_out set rule kappa j g fits c = record {
  start = c.start;
  demand = c.demand;
  early = c.early;
  balance = c.balance;
  each = λ k. demand_same set rule kappa j false g c.start k (c.demand k) fits.soon (c.each k);
}

-- each legal trace in low mode has a bound on the ticks that were spent
pub low_demand : (set : List Task) (rule : Rule) (kappa : ℕ) → ((t : Option Task) → low_offset rule t ≤ scale rule * period_in t) → AllByRecursion IsTask set → (h : List Row) → Legal set rule h → high_mode rule h ≡ false → LowDemand set rule kappa h
low_demand set rule kappa slack s [] l m = fresh set rule kappa [] refl
low_demand set rule kappa slack s (Release j true ∷ g) l m = released_in set rule kappa j g slack l.0 (release_fits set rule j true g l.1) (low_demand set rule kappa slack s g l.2 m)
low_demand set rule kappa slack s (Release j false ∷ g) l m = released_out set rule kappa j g (release_fits set rule j false g l.1) (low_demand set rule kappa slack s g l.2 m)
low_demand set rule kappa slack s (Idle ∷ g) l m = fresh set rule kappa (Idle ∷ g) (rw (idle_fits set rule g l.1) refl)
low_demand set rule kappa slack s (Tick j how ∷ g) l m = go (low_demand set rule kappa slack s g l.2 (or_right _ _ m)) (none_below set rule false (kappa + 1) (pending set g)) refl
  where
    go : LowDemand set rule kappa g → (b : Bool) → none_below set rule false (kappa + 1) (pending set g) ≡ b → LowDemand set rule kappa (Tick j how ∷ g)
    go ih true e = fresh set rule kappa (Tick j how ∷ g) (none_below-filter set rule false (kappa + 1) (stays set j how) (pending set g) e)
    go ih false e = ticked set rule kappa j how g (live_ok set rule g s l.2) (tick_fits set rule j how g l.1) (or_right _ _ m) e ih

-- a pending job with a key of at most kappa still has a tick to use
pub owing : (set : List Task) (rule : Rule) (kappa : ℕ) (h : List Row) → high_mode rule h ≡ false → (xs : List KeptRelease) → Each (IsLiveOk set rule h) xs → none_below set rule false (kappa + 1) xs ≡ false → 1 ≤ total (weight set rule kappa h) xs
owing set rule kappa h low [] ok e = cc
owing set rule kappa h low (x ∷ xs) ok e = go (owing set rule kappa h low xs ok.1) (nat_le (key set rule false x) kappa) refl
  where
    go : (none_below set rule false (kappa + 1) xs ≡ false → 1 ≤ total (weight set rule kappa h) xs) → (b : Bool) → nat_le (key set rule false x) kappa ≡ b → 1 ≤ total (weight set rule kappa h) (x ∷ xs)
    go ih true m =
        let room : used h x.job + 1 ≤ low_budget rule (task_at set x.job.task.0) = ok.0.low low in
        rw m (omega (arith, room))
    go ih false m =
        let l : kappa + 1 ≤ key set rule false x = let q = leb-false _ _ m in omega arith in
        let e' = rw (le-leb _ _ l) at e in
        rw m (let i : 1 ≤ total (weight set rule kappa h) xs = ih e' in omega (arith, i))
