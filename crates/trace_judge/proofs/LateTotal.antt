-- Who is late, row by row.
use Rattle.std.proofs.Common.{[], ◌≡◌, ℕ, ◌+◌, ◌≤◌, Bool, true, false, not, ◌&&◌, ◌||◌, List, ◌∷◌, cond, filter, refl, sym, ap, ◌∙◌, arith, ◌==◌, nat_le}
use Rattle.std.proofs.lemmas.Bool.Decides.{nat_tests}
use Rattle.mc_task.specs.declared.task.JobId.{JobId}
use Rattle.mc_task.specs.declared.task.Rule.{Rule}
use Rattle.mc_task.specs.declared.task.Task.{Task}
use Rattle.mc_model.proofs.Lists.{Each-map, Each-all, filter_none}
use Rattle.mc_model.specs.declared.row.Row.{Row}
use Rattle.mc_model.specs.declared.row.Row.TheVariants.{Release, Tick, Idle}
use Rattle.mc_model.specs.Rows.{ticks}
use Rattle.mc_model.specs.Pending.{KeptRelease, is_still_pending}
use Rattle.mc_model.specs.Legal.{Legal}
use Rattle.mc_model.specs.Late.{up_to, deadline, is_late, late}
use Rattle.mc_model.specs.Sums.{total, when}
use Rattle.trace_judge.specs.Placed.{Placed, new_one, placed, waiting, stays, is_due, gone_late}
use Rattle.mc_model.proofs.Sums.{total-append, total-filter, total-ext, total-same, total-add}
use Rattle.trace_judge.proofs.Placed.{others_live, new_live, waiting_is}

-- the rows up to the last tick are all rows
all_up_to : (g : List Row) → up_to (ticks g) g ≡ g
all_up_to [] = refl
all_up_to (row ∷ g) = let e : nat_le (ticks (row ∷ g)) (ticks (row ∷ g)) ≡ true = grind (arith, nat_tests) in rw e refl

-- whether a job is late after one more row
late_after : (set : List Task) (row : Row) (g : List Row) (i : KeptRelease) →
    is_late set (row ∷ g) i ≡ (nat_le (deadline set i) (ticks (row ∷ g)) && cond (nat_le (ticks (row ∷ g)) (deadline set i)) (is_still_pending set (row ∷ g) i)
    (is_still_pending set (up_to (deadline set i) g) i))
late_after set row g i = grind arith

-- a job is late after one more tick if it was late before, or if its deadline comes with the tick and it is
-- still pending
tick_late : (set : List Task) (row : Row) (g : List Row) (i : KeptRelease) → ticks (row ∷ g) ≡ ticks g + 1 →
    is_late set (row ∷ g) i ≡ (is_late set g i || ((deadline set i == ticks g + 1) && is_still_pending set (row ∷ g) i))
tick_late set row g i e = late_after set row g i ∙ rw e (tests (deadline set i) (ticks g) (is_still_pending set (row ∷ g) i) (is_still_pending set (up_to (deadline set i) g) i))
  where
    tests : (d t : ℕ) (x y : Bool) → (nat_le d (t + 1) && cond (nat_le (t + 1) d) x y) ≡ ((nat_le d t && y) || ((d == t + 1) && x))
    tests d t x y = grind (arith, nat_tests)

-- if a release does not change whether a job is pending, it does not change whether the job is late
others_late : (set : List Task) (j : JobId) (kept : Bool) (g : List Row) (i : KeptRelease) → is_still_pending set (Release j kept ∷ g) i ≡ is_still_pending set g i → is_late set (Release j kept ∷ g) i ≡ is_late set g i
others_late set j kept g i same =
    late_after set (Release j kept) g i ∙ tests (deadline set i) (ticks g) _ _
    (λ e. same ∙ sym (ap (λ d. is_still_pending set (up_to d g) i) e ∙ ap (λ h. is_still_pending set h i) (all_up_to g)))
  where
    tests : (d t : ℕ) (x y : Bool) → (d ≡ t → x ≡ y) → (nat_le d t && cond (nat_le t d) x y) ≡ (nat_le d t && y)
    tests d t x y h = grind (arith, nat_tests)

-- what a step adds to the sum over the late jobs
pub late_step :
    (f : Placed → ℕ) (late late' due due' new lives st : Placed → Bool) (n : ℕ) (ps ws : List Placed) →
    ((x : Placed) → late' x ≡ (late x || (new x && lives x))) → ((x : Placed) → new x ≡ true → late x ≡ false) →
    ((x : Placed) → due' x ≡ (due x || new x)) → ((x : Placed) → new x ≡ true → due x ≡ false) →
    filter lives ps ≡ filter st ws → total (when late f) ps ≡ n + total (when due f) ws →
    total (when late' f) ps ≡ (total f (filter (λ x. not (st x) && due x) ws) + n) + total (when due' f) (filter st ws)
late_step f late late' due due' new lives st n ps ws a b c d e ih =
    let f' : Placed → ℕ = when new f in
    let gone : Placed → Bool = λ x. not (st x) && due x in
    let late_before = total-same (when late' f) (λ x. when late f x + when lives f' x) (λ x. grind (arith, a x, b x)) ps ∙ total-add (when late f) (when lives f') ps in
    let due_before = total-same (λ x. when due f x + when st f' x) (λ x. when gone f x + when st (when due' f) x) (λ x. grind (arith, c x, d x)) ws in
    let both = sym (total-filter f' lives ps) ∙ (ap (total f') e ∙ total-filter f' st ws) in
    rw (total-filter f gone ws, total-filter (when due' f) st ws)
    (omega (arith, late_before, both, total-add (when gone f) (when st (when due' f)) ws, total-add (when due f) (when st f') ws, due_before, ih))

-- a filter that all elements pass leaves the list as it is
pub filter_true : {X : Type 0} → (xs : List X) → filter (λ x. true) xs ≡ xs
filter_true [] = refl
filter_true (x ∷ xs) = ap (λ ys. x ∷ ys) (filter_true xs)

-- the late jobs that a tick adds, if the pending jobs that pass st stay pending after the tick
late_after_tick : (set : List Task) (row : Row) (g : List Row) (st : Placed → Bool) (f : Placed → ℕ) → ticks (row ∷ g) ≡ ticks g + 1 →
    filter (λ x. is_still_pending set (row ∷ g) x.kept) (placed g) ≡ filter st (waiting set g) →
    total (when (λ x. is_late set g x.kept) f) (placed g) ≡ total f (gone_late set g) + total (when (is_due set (ticks g)) f) (waiting set g) →
    total (when (λ x. is_late set (row ∷ g) x.kept) f) (placed g)
    ≡ (total f (filter (λ x. not (st x) && is_due set (ticks g) x) (waiting set g)) + total f (gone_late set g)) + total (when (is_due set (ticks g + 1)) f)
    (filter st (waiting set g))
late_after_tick set row g st f one kept ih =
    late_step f (λ x. is_late set g x.kept) (λ x. is_late set (row ∷ g) x.kept) (is_due set (ticks g)) (is_due set (ticks g + 1))
    (λ x. deadline set x.kept == ticks g + 1) (λ x. is_still_pending set (row ∷ g) x.kept) st (total f (gone_late set g)) (placed g) (waiting set g)
    (λ x. tick_late set row g x.kept one) (λ x e. grind (arith, nat_tests)) (λ x. grind (arith, nat_tests)) (λ x e. grind (arith, nat_tests)) kept ih

-- a release does not change which of the jobs released before are late
kept_late : (set : List Task) (rule : Rule) (j : JobId) (kept : Bool) (g : List Row) → Legal set rule (Release j kept ∷ g) → (f : Placed → ℕ) →
    total (when (λ x. is_late set (Release j kept ∷ g) x.kept) f) (placed g) ≡ total (when (λ x. is_late set g x.kept) f) (placed g)
kept_late set rule j kept g l f =
    total-ext _ _ (placed g) (Each-map {P = λ (x : Placed). is_still_pending set (Release j kept ∷ g) x.kept ≡ is_still_pending set g x.kept}
    (λ x e. ap (λ b. cond b (f x) 0) (others_late set j kept g x.kept e)) (placed g) (others_live set rule j kept g l))

-- the late jobs: those that ended or were discarded late, and those that are still pending after their
-- deadlines
pub late_total : (set : List Task) (rule : Rule) (h : List Row) → Legal set rule h → (f : Placed → ℕ) →
    total (when (λ x. is_late set h x.kept) f) (placed h) ≡ total f (gone_late set h) + total (when (is_due set (ticks h)) f) (waiting set h)
late_total set rule [] l f = omega arith
late_total set rule (Tick j how ∷ g) l f =
    let s = late_after_tick set (Tick j how) g (stays set j how) f refl (waiting_is set rule (Tick j how ∷ g) l) (late_total set rule g l.2 f) in
    let a = total-append f (filter (λ x. not (stays set j how x) && is_due set (ticks g) x) (waiting set g)) (gone_late set g) in
    s ∙ ap (λ n. n + total (when (is_due set (ticks g + 1)) f) (waiting set (Tick j how ∷ g))) (sym a)
late_total set rule (Idle ∷ g) l f =
    let s = late_after_tick set Idle g (λ x. true) f refl (waiting_is set rule (Idle ∷ g) l ∙ sym (filter_true (waiting set g))) (late_total set rule g l.2 f) in
    let none : total f (filter (λ x. false && is_due set (ticks g) x) (waiting set g)) ≡ 0 =
    ap (total f) (filter_none (λ x. false) (waiting set g) (Each-all (λ x. refl) (waiting set g))) in
    let all = ap (total (when (is_due set (ticks g + 1)) f)) (filter_true (waiting set g)) in
    omega (arith, s, none, all)
late_total set rule (Release j false ∷ g) l f = kept_late set rule j false g l f ∙ late_total set rule g l.2 f
late_total set rule (Release j true ∷ g) l f =
    let here : when (λ y. is_late set (Release j true ∷ g) y.kept) f (new_one j g) ≡ when (is_due set (ticks g)) f (new_one j g) =
    ap (λ b. cond b (f (new_one j g)) 0) (new_late set rule j g l) in
    omega (arith, kept_late set rule j true g l f, late_total set rule g l.2 f, here)
  where
    new_tests : (d t : ℕ) (x y : Bool) → t ≤ d → x ≡ true → (nat_le d t && cond (nat_le t d) x y) ≡ nat_le d t
    new_tests d t x y h e = grind (arith, nat_tests)

    new_late : (set : List Task) (rule : Rule) (j : JobId) (g : List Row) → Legal set rule (Release j true ∷ g) → is_late set (Release j true ∷ g) (new_one j g).kept ≡ is_due set (ticks g) (new_one j g)
    new_late set rule j g l =
        late_after set (Release j true) g (new_one j g).kept ∙ new_tests (deadline set (new_one j g).kept) (ticks g) _ _ (omega arith) (new_live set rule j g l)
