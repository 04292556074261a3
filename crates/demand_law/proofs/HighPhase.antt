-- The ledger of the high mode, row by row, from the switch on.
use Rattle.std.proofs.Common.{◌≡◌, ℕ, ◌+◌, ◌-◌, ◌*◌, ◌≤◌, Bool, true, false, not, ◌&&◌, ◌||◌, List, [], ◌∷◌, cond, filter, nat_le, refl, arith, le_refl, leb-true}
use Rattle.mc_task.specs.declared.task.Rule.TheVariants.{Virtual}
use Rattle.mc_task.specs.declared.task.Task.{Task}
use Rattle.mc_task.specs.declared.task.JobId.{JobId}
use Rattle.mc_task.specs.TaskSet.{task_at, IsIn}
use Rattle.mc_model.specs.declared.row.How.{How}
use Rattle.mc_model.specs.declared.row.Row.{Row}
use Rattle.mc_model.specs.declared.row.Row.TheVariants.{Release, Tick, Idle}
use Rattle.mc_model.specs.TaskNumbers.{period_in, own_in, is_high_in}
use Rattle.mc_model.specs.Pending.{KeptRelease}
use Rattle.mc_model.specs.Rows.{same_job, ticks, used}
use Rattle.mc_model.specs.Legal.{none_below}
use Rattle.mc_model.specs.Mode.{high_mode, is_over}
use Rattle.mc_model.specs.Key.{key}
use Rattle.mc_model.proofs.Fold.{pending, stays, Legal}
use Rattle.mc_model.specs.Sums.{total}
use Rattle.mc_model.proofs.Lists.{Each, Each-all, Each-map, Each-filter, Each-filter_if}
use Rattle.mc_model.proofs.Sums.{total_spend}
use Rattle.mc_model.proofs.Steps.{ReleaseFits, release_fits, TickFits}
use Rattle.mc_model.proofs.Tasks.{IsKnown}
use Rattle.mc_model.proofs.Live.{IsLiveOk}
use Rattle.demand_law.proofs.Keys.{above, weight_falls, weight-le, is_taken, none_below-filter, least_low, cancel_scale}
use Rattle.demand_law.proofs.Share.{new_high, Ledger, ledger_fresh, ledger_less, ledger_tick, ledger_same, ledger_more}
use Rattle.std.proofs.lemmas.Bool.{and_parts}
use Rattle.std.proofs.Math.Bool.{beq}

-- what a job with a deadline of at most e may still use of its own budget
abbrev pub dues : List Task → ℕ → ℕ → ℕ → List Row → KeptRelease → ℕ
dues set p q e h x = cond (nat_le (key set (Virtual p q) true x) (q * e)) (own_in (task_at set x.job.task.0) - used h x.job) 0

-- what the pending jobs with a deadline of at most e may still use of their own budgets
abbrev pub due : List Task → ℕ → ℕ → ℕ → List Row → ℕ
due set p q e h = total (dues set p q e h) (pending set h)

-- a ledger with a mark in the past, for what the pending jobs may still use
pub record HighLedger (set : List Task) (p q e : ℕ) (h : List Row) : Type 0 where
  pub mid : ℕ
  pub past : mid ≤ ticks h
  pub ledger : Ledger set p q e mid h (due set p q e h)

-- in high mode the pending jobs are high
pub high_live : (set : List Task) (p q : ℕ) (h : List Row) → Legal set (Virtual p q) h → high_mode (Virtual p q) h ≡ true → Each (λ x. is_high_in (task_at set x.job.task.0) ≡ true) (pending set h)
high_live set p q [] l m = cc
high_live set p q (Release j true ∷ g) l m = (or_not (is_high_in (task_at set j.task.0)) (rw m at (release_fits set (Virtual p q) j true g l.1).kept_so), high_live set p q g l.2 m)
  where
    or_not : (a : Bool) → beq true (a || not true) ≡ true → a ≡ true
    or_not true h = refl
    or_not false h = h
high_live set p q (Release j false ∷ g) l m = high_live set p q g l.2 m
high_live set p q (Idle ∷ g) l m = cc
high_live set p q (Tick j how ∷ g) l m = go (high_live set p q g l.2) (high_mode (Virtual p q) g) refl
  where
    over_high : (o a : Bool) (b : Bool) → (o || false) ≡ true → (a && (not o || b)) ≡ true → b ≡ true
    over_high true true b h k = k
    over_high true false b h k = cc
    over_high false a b h k = cc

    go : (high_mode (Virtual p q) g ≡ true → Each (λ x. is_high_in (task_at set x.job.task.0) ≡ true) (pending set g)) → (b : Bool) → high_mode (Virtual p q) g ≡ b → Each (λ x. is_high_in (task_at set x.job.task.0) ≡ true) (filter (stays set j how) (pending set g))
    go ih true n = Each-filter (λ x. is_high_in (task_at set x.job.task.0) ≡ true) (stays set j how) (pending set g) (ih n)
    go ih false n =
        Each-filter_if (λ x. is_high_in (task_at set x.job.task.0) ≡ true) (stays set j how) (pending set g)
        (Each-all (λ x st. over_high (is_over how) _ _ (rw n at m) st) (pending set g))

-- if all deadlines are after e, the pending jobs have nothing to use
no_dues : (set : List Task) (p q e : ℕ) (h : List Row) (xs : List KeptRelease) → none_below set (Virtual p q) true (q * e + 1) xs ≡ true → total (dues set p q e h) xs ≡ 0
no_dues set p q e h [] f = refl
no_dues set p q e h (x ∷ xs) f =
    let w = and_parts (nat_le (q * e + 1) (key set (Virtual p q) true x)) (none_below set (Virtual p q) true (q * e + 1) xs) f in
    let far = above (key set (Virtual p q) true x) (q * e) w.0 in
    let ih : total (dues set p q e h) xs ≡ 0 = no_dues set p q e h xs w.1 in
    rw far (omega (arith, ih))

-- if all deadlines are after e, a new ledger starts
pub anew : (set : List Task) (p q e : ℕ) (h : List Row) → none_below set (Virtual p q) true (q * e + 1) (pending set h) ≡ true → HighLedger set p q e h
anew set p q e h f =
    let z = no_dues set p q e h (pending set h) f in
    record { mid = ticks h; past = le_refl _; ledger = ledger_less set p q e (ticks h) h (due set p q e h) 0 (omega (arith, z)) (ledger_fresh set p q e (ticks h) h (le_refl _)) }

-- a tick of a job with a deadline of at most e lessens what it may use
due_spends : (set : List Task) (p q e : ℕ) (j : JobId) (how : How) (g : List Row) (x : KeptRelease) → IsLiveOk set (Virtual p q) g x → nat_le (key set (Virtual p q) true x) (q * e) ≡ true →
    same_job j x.job ≡ true → dues set p q e (Tick j how ∷ g) x + 1 ≤ dues set p q e g x
due_spends set p q e j how g x ok near m =
    let r : used g x.job + 1 ≤ own_in (task_at set x.job.task.0) = ok.own in
    rw (near, m) (omega (arith, r))

-- while a job with a deadline of at most e is pending, each tick is of such a job, and lessens what is due
due_tick : (set : List Task) (p q e : ℕ) (j : JobId) (how : How) (g : List Row) → Each (IsLiveOk set (Virtual p q) g) (pending set g) → TickFits set (Virtual p q) j how g → high_mode (Virtual p q) g ≡ true →
    none_below set (Virtual p q) true (q * e + 1) (pending set g) ≡ false → due set p q e (Tick j how ∷ g) + 1 ≤ due set p q e g
due_tick set p q e j how g ok fits high busy =
    total_spend (dues set p q e g) (dues set p q e (Tick j how ∷ g)) (stays set j how) (is_taken set (Virtual p q) true j (pending set g)) (pending set g)
    (Each-all (λ x. weight_falls _ _ _ _) (pending set g))
    (Each-map {P = IsLiveOk set (Virtual p q) g} (λ x o t. let m = least_low set (Virtual p q) true (q * e) j (pending set g) x busy t in due_spends set p q e j how g x o m.1 m.0) (pending set g) ok)
    (rw high at fits.least)

-- a ledger of high mode stays one after a tick
pub high_tick : (set : List Task) (p q e : ℕ) (j : JobId) (how : How) (g : List Row) → Each (IsLiveOk set (Virtual p q) g) (pending set g) → TickFits set (Virtual p q) j how g → high_mode (Virtual p q) g ≡ true → HighLedger set p q e g → HighLedger set p q e (Tick j how ∷ g)
high_tick set p q e j how g ok fits high c = go (none_below set (Virtual p q) true (q * e + 1) (pending set g)) refl
  where
    go : (b : Bool) → none_below set (Virtual p q) true (q * e + 1) (pending set g) ≡ b → HighLedger set p q e (Tick j how ∷ g)
    go true m = anew set p q e (Tick j how ∷ g) (none_below-filter set (Virtual p q) true (q * e + 1) (stays set j how) (pending set g) m)
    go false m = record {
      mid = c.mid;
      past = let o = c.past in omega (arith, o);
      ledger = ledger_tick set p q e c.mid j how g (due set p q e (Tick j how ∷ g)) (due set p q e g) (due_tick set p q e j how g ok fits high m) c.ledger;
    }

-- a ledger of high mode stays one after a release
pub high_release : (set : List Task) (p q e : ℕ) (j : JobId) (g : List Row) → 1 ≤ q → p ≤ q → IsIn set j.task.0 → IsKnown (task_at set j.task.0) → is_high_in (task_at set j.task.0) ≡ true → ReleaseFits set (Virtual p q) j true g → HighLedger set p q e g → HighLedger set p q e (Release j true ∷ g)
high_release set p q e j g pos pq inside k hi fits c = go (nat_le (key set (Virtual p q) true (record { job = j; release = ticks g })) (q * e)) refl
  where
    go : (b : Bool) → nat_le (key set (Virtual p q) true (record { job = j; release = ticks g })) (q * e) ≡ b → HighLedger set p q e (Release j true ∷ g)
    go true m =
        let own = own_in (task_at set j.task.0) in
        let l = weight-le (nat_le (key set (Virtual p q) true (record { job = j; release = ticks g })) (q * e)) own (used g j) in
        let t : ticks g + period_in (task_at set j.task.0) ≤ e = cancel_scale q (ticks g) (period_in (task_at set j.task.0)) e pos (leb-true _ _ m) in
        record {
          mid = c.mid;
          past = c.past;
          ledger = ledger_less set p q e c.mid (Release j true ∷ g) (due set p q e (Release j true ∷ g)) (own + due set p q e g) (omega (arith, l))
              (ledger_more set p q e c.mid j true g (due set p q e g) own pq inside k.order fits.soon (new_high hi c.past t) c.ledger);
        }
    go false m = record {
      mid = c.mid;
      past = c.past;
      ledger = ledger_less set p q e c.mid (Release j true ∷ g) (due set p q e (Release j true ∷ g)) (due set p q e g) (rw m (omega arith)) (ledger_same set p q e c.mid j true g (due set p q e g) fits.soon c.ledger);
    }
