-- The ledger of low mode, row by row, for a high job x, the mark, that is released at a and has a deadline of
-- at most e.
use Rattle.std.proofs.Common.{◌≡◌, ℕ, ◌+◌, ◌<◌, ◌≤◌, ◌⊎◌, inl, inr, Bool, true, false, ◌||◌, List, [], ◌∷◌, filter, nat_le, nat_lt, refl, ap, arith, leb-true, ltb-true, ltb-false, lt-ltb}
use Rattle.std.specs.List.{AllByRecursion}
use Rattle.mc_task.specs.declared.task.Rule.TheVariants.{Virtual}
use Rattle.mc_task.specs.declared.task.Task.{Task}
use Rattle.mc_task.specs.declared.task.JobId.{JobId}
use Rattle.mc_task.specs.TaskSet.{task_at, IsTask, IsIn}
use Rattle.mc_model.specs.declared.row.How.{How}
use Rattle.mc_model.specs.declared.row.Row.{Row}
use Rattle.mc_model.specs.declared.row.Row.TheVariants.{Release, Tick, Idle}
use Rattle.mc_model.specs.TaskNumbers.{is_high_in}
use Rattle.mc_model.specs.Pending.{KeptRelease}
use Rattle.mc_model.specs.Rows.{ticks, used}
use Rattle.mc_model.specs.Legal.{none_below}
use Rattle.mc_model.specs.Mode.{high_mode}
use Rattle.mc_model.specs.Key.{key}
use Rattle.mc_model.proofs.Fold.{pending, stays, Legal}
use Rattle.mc_model.proofs.Jobs.{same_live, is_in, live_eq}
use Rattle.mc_model.specs.Sums.{total}
use Rattle.mc_model.proofs.Lists.{Each, Each-all}
use Rattle.mc_model.proofs.Sums.{total-filter_less}
use Rattle.mc_model.proofs.Steps.{ReleaseFits, release_fits, TickFits, tick_fits, idle_fits}
use Rattle.mc_model.proofs.Tasks.{IsKnown, known}
use Rattle.mc_model.proofs.Live.{IsLiveOk, live_ok}
use Rattle.mc_model.proofs.Booleans.{or_right, or_true}
use Rattle.demand_law.proofs.Keys.{above, weight_falls, weight-le, key_in}
use Rattle.demand_law.proofs.Share.{Counts, low_task, old_high, new_high, Ledger, ledger_fresh, ledger_less, ledger_tick, ledger_same, ledger_more}
use Rattle.demand_law.proofs.Before.{is_old, limit, counts, budget, owes, owed, busy_tick}
use Rattle.std.proofs.lemmas.Bool.{and_parts}

-- before a, while no virtual key is at most the limit, nothing counts
none_owed : (set : List Task) (p q e a : ℕ) (g h : List Row) → ticks g + 1 ≤ a → (xs : List KeptRelease) → Each (IsLiveOk set (Virtual p q) g) xs → none_below set (Virtual p q) false (limit p q e a + 1) xs ≡ true → total (owes set p q e a h) xs ≡ 0
none_owed set p q e a g h soon [] ok f = refl
none_owed set p q e a g h soon (x ∷ xs) ok f =
    let w = and_parts (nat_le (limit p q e a + 1) (key set (Virtual p q) false x)) (none_below set (Virtual p q) false (limit p q e a + 1) xs) f in
    let ih : total (owes set p q e a h) xs ≡ 0 = none_owed set p q e a g h soon xs ok.1 w.1 in
    let past : x.release ≤ ticks g = ok.0.past in
    let less : x.release < a = omega (arith, past, soon) in
    let old : is_old set a x ≡ true = or_true _ _ (lt-ltb x.release a less) in
    let far : nat_le (key set (Virtual p q) false x) (limit p q e a) ≡ false = above (key set (Virtual p q) false x) (limit p q e a) w.0 in
    let c : counts set p q e a x ≡ false = rw old far in
    rw c (omega (arith, ih))

-- the job is pending, or its release has not come
abbrev pub Waits : List Task → KeptRelease → List Row → Type 0
Waits set x h = (is_in (pending set h) x ≡ true) ⊎ (ticks h ≤ x.release)

-- an element that a filter keeps is in the list
is_in-filter : (f : KeptRelease → Bool) (x : KeptRelease) (xs : List KeptRelease) → is_in (filter f xs) x ≡ true → is_in xs x ≡ true
is_in-filter f x [] e = e
is_in-filter f x (y ∷ ys) e = go (is_in-filter f x ys) (f y) refl
  where
    go : (is_in (filter f ys) x ≡ true → is_in ys x ≡ true) → (b : Bool) → f y ≡ b → (same_live x y || is_in ys x) ≡ true
    go ih true m = or_map (same_live x y) (is_in (filter f ys) x) (is_in ys x) ih (rw m at e)
      where
        or_map : (a b c : Bool) → (b ≡ true → c ≡ true) → (a || b) ≡ true → (a || c) ≡ true
        or_map true b c f h = refl
        or_map false b c f h = f h
    go ih false m = or_true _ _ (ih (rw m at e))

-- if x is pending, not all keys are above the limit
busy : (set : List Task) (p q n : ℕ) (x : KeptRelease) (xs : List KeptRelease) → is_in xs x ≡ true → key set (Virtual p q) false x ≤ n → none_below set (Virtual p q) false (n + 1) xs ≡ false
busy set p q n x xs e k = go (none_below set (Virtual p q) false (n + 1) xs) refl
  where
    go : (b : Bool) → none_below set (Virtual p q) false (n + 1) xs ≡ b → b ≡ false
    go false m = refl
    go true m = let l : n + 1 ≤ key set (Virtual p q) false x = key_in set (Virtual p q) false (n + 1) x xs e m in absurd (omega (arith, l, k))

-- a job that a ledger may be for: its virtual key is at most the limit
pub record IsMark (set : List Task) (p q e : ℕ) (x : KeptRelease) : Type 0 where
  pub pos : 1 ≤ p
  pub scale : p ≤ q
  pub order : x.release ≤ e
  pub near : key set (Virtual p q) false x ≤ limit p q e x.release

-- a ledger stays one after a tick
pub low_tick : (set : List Task) (p q e : ℕ) (x : KeptRelease) (j : JobId) (how : How) (g : List Row) → IsMark set p q e x → Each (IsLiveOk set (Virtual p q) g) (pending set g) → TickFits set (Virtual p q) j how g → high_mode (Virtual p q) g ≡ false →
    Waits set x (Tick j how ∷ g) → Ledger set p q e x.release g (owed set p q e x.release g) → Ledger set p q e x.release (Tick j how ∷ g) (owed set p q e x.release (Tick j how ∷ g))
low_tick set p q e x j how g mark ok fits low (inl w) c =
    let here = busy set p q (limit p q e x.release) x (pending set g) (is_in-filter (stays set j how) x (pending set g) w) mark.near in
    ledger_tick set p q e x.release j how g (owed set p q e x.release (Tick j how ∷ g)) (owed set p q e x.release g) (busy_tick set p q e x.release j how g mark.pos mark.scale mark.order ok fits low here) c
low_tick set p q e x j how g mark ok fits low (inr w) c = go (none_below set (Virtual p q) false (limit p q e x.release + 1) (pending set g)) refl
  where
    go : (b : Bool) → none_below set (Virtual p q) false (limit p q e x.release + 1) (pending set g) ≡ b → Ledger set p q e x.release (Tick j how ∷ g) (owed set p q e x.release (Tick j how ∷ g))
    go false m = ledger_tick set p q e x.release j how g (owed set p q e x.release (Tick j how ∷ g)) (owed set p q e x.release g) (busy_tick set p q e x.release j how g mark.pos mark.scale mark.order ok fits low m) c
    go true m =
        let z : total (owes set p q e x.release g) (pending set g) ≡ 0 = none_owed set p q e x.release g g w (pending set g) ok m in
        let f = total-filter_less (owes set p q e x.release g) (owes set p q e x.release (Tick j how ∷ g)) (stays set j how) (pending set g) (Each-all (λ y. weight_falls _ _ _ _) (pending set g)) in
        ledger_less set p q e x.release (Tick j how ∷ g) (owed set p q e x.release (Tick j how ∷ g)) 0 (omega (arith, z, f)) (ledger_fresh set p q e x.release (Tick j how ∷ g) w)

-- a release that counts does so in one of the three ways of `Counts`
counted : (set : List Task) (p q e a : ℕ) (j : JobId) (r : ℕ) → counts set p q e a (record { job = j; release = r }) ≡ true → Counts set p q e a r j.task.0 (budget set a (record { job = j; release = r }))
counted set p q e a j r h = go (is_high_in (task_at set j.task.0)) refl (nat_lt r a) refl
  where
    go : (b : Bool) → is_high_in (task_at set j.task.0) ≡ b → (c : Bool) → nat_lt r a ≡ c → Counts set p q e a r j.task.0 (budget set a (record { job = j; release = r }))
    go false m c n = rw m (low_task m (leb-true _ _ (rw m at h)))
    go true m true n = let less : r < a = ltb-true r a n in let o : r + 1 ≤ a = omega (arith, less) in rw (m, n) (old_high m o (leb-true _ _ (rw n at (rw m at h))))
    go true m false n = rw (m, n) (new_high m (ltb-false _ _ n) (leb-true _ _ (rw n at (rw m at h))))

-- a ledger stays one after a release
low_release : (set : List Task) (p q e : ℕ) (x : KeptRelease) (j : JobId) (g : List Row) → IsMark set p q e x → IsIn set j.task.0 → IsKnown (task_at set j.task.0) → ReleaseFits set (Virtual p q) j true g →
    Ledger set p q e x.release g (owed set p q e x.release g) → Ledger set p q e x.release (Release j true ∷ g) (owed set p q e x.release (Release j true ∷ g))
low_release set p q e x j g mark inside k fits c = go (counts set p q e x.release (record { job = j; release = ticks g })) refl
  where
    go : (b : Bool) → counts set p q e x.release (record { job = j; release = ticks g }) ≡ b → Ledger set p q e x.release (Release j true ∷ g) (owed set p q e x.release (Release j true ∷ g))
    go true m =
        let b = budget set x.release (record { job = j; release = ticks g }) in
        let l = weight-le (counts set p q e x.release (record { job = j; release = ticks g })) b (used g j) in
        ledger_less set p q e x.release (Release j true ∷ g) (owed set p q e x.release (Release j true ∷ g)) (b + owed set p q e x.release g) (omega (arith, l))
        (ledger_more set p q e x.release j true g (owed set p q e x.release g) b mark.scale inside k.order fits.soon (counted set p q e x.release j (ticks g) m) c)
    go false m =
        ledger_less set p q e x.release (Release j true ∷ g) (owed set p q e x.release (Release j true ∷ g)) (owed set p q e x.release g) (rw m (omega arith))
        (ledger_same set p q e x.release j true g (owed set p q e x.release g) fits.soon c)

-- a job that waits after a release waited before it, or is the one that was released
waits_before : (set : List Task) (x : KeptRelease) (j : JobId) (g : List Row) → Waits set x (Release j true ∷ g) → Waits set x g
waits_before set x j g (inr w) = inr w
waits_before set x j g (inl w) = go (same_live x (record { job = j; release = ticks g })) refl
  where
    go : (b : Bool) → same_live x (record { job = j; release = ticks g }) ≡ b → Waits set x g
    go true m = inr (let e : x.release ≡ ticks g = ap (λ (y : KeptRelease). y.release) (live_eq x (record { job = j; release = ticks g }) m) in omega (arith, e))
    go false m = inl (rw m at w)

-- a job that waits after a tick waited before it
pub waits_tick : (set : List Task) (x : KeptRelease) (j : JobId) (how : How) (g : List Row) → Waits set x (Tick j how ∷ g) → Waits set x g
waits_tick set x j how g (inl w) = inl (is_in-filter (stays set j how) x (pending set g) w)
waits_tick set x j how g (inr w) = inr (omega (arith, w))

-- a ledger stays one after an idle tick
low_idle : (set : List Task) (p q e : ℕ) (x : KeptRelease) (g : List Row) → pending set g ≡ [] → Waits set x (Idle ∷ g) → Ledger set p q e x.release (Idle ∷ g) (owed set p q e x.release (Idle ∷ g))
low_idle set p q e x g none (inl w) = absurd (never (rw none at w))
  where
    never : is_in [] x ≡ true → ⊥
    never h = cc
low_idle set p q e x g none (inr w) = rw none (ledger_fresh set p q e x.release (Idle ∷ g) w)

-- low mode has a ledger for as long as the job waits
pub low_phase : (set : List Task) (p q e : ℕ) (x : KeptRelease) → IsMark set p q e x → AllByRecursion IsTask set → (h : List Row) → Legal set (Virtual p q) h → high_mode (Virtual p q) h ≡ false → Waits set x h → Ledger set p q e x.release h (owed set p q e x.release h)
low_phase set p q e x mark s [] l m w = ledger_fresh set p q e x.release [] (omega arith)
low_phase set p q e x mark s (Release j true ∷ g) l m w =
    low_release set p q e x j g mark l.0 (known set j.task.0 s l.0) (release_fits set (Virtual p q) j true g l.1) (low_phase set p q e x mark s g l.2 m (waits_before set x j g w))
low_phase set p q e x mark s (Release j false ∷ g) l m w =
    ledger_same set p q e x.release j false g (owed set p q e x.release g) (release_fits set (Virtual p q) j false g l.1).soon (low_phase set p q e x mark s g l.2 m w)
low_phase set p q e x mark s (Tick j how ∷ g) l m w =
    low_tick set p q e x j how g mark (live_ok set (Virtual p q) g s l.2) (tick_fits set (Virtual p q) j how g l.1) (or_right _ _ m) w (low_phase set p q e x mark s g l.2 (or_right _ _ m) (waits_tick set x j how g w))
low_phase set p q e x mark s (Idle ∷ g) l m w = low_idle set p q e x g (idle_fits set (Virtual p q) g l.1) w
