-- The job that takes a row's tick, of equal keys the one with the lowest number, is the chosen one.
use Rattle.std.proofs.Common.{◌≡◌, ℕ, ◌+◌, ◌*◌, ◌≤◌, Bool, true, false, not, ◌&&◌, ◌||◌, List, [], ◌∷◌, Option, Some, None, cond, nat_lt, nat_le, ◌==◌, option_map, refl, sym, ap, ◌∙◌, subst, arith, inl, inr}
use Rattle.std.specs.List.{list_all, list_any, AllByRecursion}
use Rattle.std.proofs.lemmas.Bool.Decides.{nat_tests}
use Rattle.mc_task.specs.declared.task.Rule.{Rule}
use Rattle.mc_task.specs.declared.task.Rule.TheVariants.{Plain, Virtual}
use Rattle.mc_task.specs.declared.task.Task.{Task}
use Rattle.mc_task.specs.declared.task.JobId.{JobId}
use Rattle.mc_task.specs.TaskSet.{IsTask, task_at}
use Rattle.mc_model.specs.declared.row.Row.{Row}
use Rattle.mc_model.specs.TaskNumbers.{period_in}
use Rattle.mc_model.specs.Holds.{Fits}
use Rattle.mc_model.specs.Pending.{KeptRelease, pending}
use Rattle.mc_model.specs.Rows.{same_job}
use Rattle.mc_model.specs.Mode.{high_mode}
use Rattle.mc_model.specs.Key.{key, low_offset, scale}
use Rattle.mc_model.specs.Legal.{none_below, is_least, Legal}
use Rattle.mc_model.specs.Core.{runs_before, first_to_run, chosen}
use Rattle.mc_model.specs.Follows.{none_lower, is_lowest}
use Rattle.mc_model.proofs.Jobs.{same_live, is_in, job_eq, live_eq, each_in, head_in}
use Rattle.mc_model.proofs.Booleans.{or_true}
use Rattle.mc_model.proofs.Lists.{Each, Each-map}
use Rattle.mode_core.proofs.CallerLemmas.{Apart, Older, only, pending_apart, IsFirst, is_first}
use Rattle.std.proofs.lemmas.Bool.{and_parts, cases_Bool}

-- x is the only one of its task and release time
abbrev Alike : KeptRelease → List KeptRelease → Type 0
Alike x xs = Each (λ i. x.job.task.0 ≡ i.job.task.0 → x.release ≡ i.release → i ≡ x) xs

-- each job of a list of jobs that are apart is the only one of its task and release time
alike : (x : KeptRelease) (xs : List KeptRelease) → Apart xs → is_in xs x ≡ true → Alike x xs
alike x [] a e = tt
alike x (y ∷ ys) a e = elim (cases_Bool (same_live x y)) [
  | inl m ↦
      let after : Alike y ys = Each-map {P = Older y} (λ i p t r. absurd (omega (arith, p.time t, r))) ys a.0 in
      subst (λ (z : KeptRelease). Alike z (y ∷ ys)) (sym (live_eq x y m)) (λ t r. refl, after)
  | inr m ↦
      let o : Older y x = each_in (Older y) x ys (rw m at e) a.0 in
      (λ t r. absurd (omega (arith, o.time (sym t), r)), alike x ys a.1 (rw m at e))
]

-- one of the pending jobs that passes a test
record Found (p : KeptRelease → Bool) (xs : List KeptRelease) : Type 0 where
  kept : KeptRelease
  inside : is_in xs kept ≡ true
  passes : p kept ≡ true

-- if some pending job passes the test, one is found
found : (p : KeptRelease → Bool) (xs : List KeptRelease) → list_any p xs ≡ true → Found p xs
found p [] e = cc
found p (x ∷ xs) e = elim (cases_Bool (p x)) [
  | inl m ↦ record { kept = x; inside = head_in x xs; passes = m }
  | inr m ↦ let f = found p xs (rw m at e) in record { kept = f.kept; inside = or_true _ _ f.inside; passes = f.passes }
]

-- what a test says of all pending jobs holds of one that is in the list
listed : (p : KeptRelease → Bool) (x : KeptRelease) (xs : List KeptRelease) → is_in xs x ≡ true → list_all p xs ≡ true → p x ≡ true
listed p x [] e h = cc
listed p x (y ∷ ys) e h = elim (cases_Bool (same_live x y)) [
  | inl m ↦ subst (λ z. p z ≡ true) (sym (live_eq x y m)) (and_parts (p y) (list_all p ys) h).0
  | inr m ↦ listed p x ys (rw m at e) (and_parts (p y) (list_all p ys) h).1
]

-- a tick has units
scale-pos : (rule : Rule) → Fits rule → 1 ≤ scale rule
scale-pos Plain f = omega arith
scale-pos (Virtual p q) f = omega (arith, f.0, f.1)

-- a factor cancels in equal products
times-inj : (q r s : ℕ) → 1 ≤ q → q * r ≡ q * s → r ≡ s
times-inj q r s p e = grind arith

-- for one task, equal keys mean equal release times
key-inj : (rule : Rule) (high : Bool) (set : List Task) (x y : KeptRelease) → Fits rule → x.job.task.0 ≡ y.job.task.0 → key set rule high x ≡ key set rule high y → x.release ≡ y.release
key-inj rule high set x y f t e =
    let offset : ℕ → ℕ = λ k. cond high (scale rule * period_in (task_at set k)) (low_offset rule (task_at set k)) in
    let o : offset x.job.task.0 ≡ offset y.job.task.0 = ap offset t in
    times-inj (scale rule) x.release y.release (scale-pos rule f) (cancel (scale rule * x.release) (scale rule * y.release) (offset x.job.task.0) (offset y.job.task.0) e o)
  where
    cancel : (a b c d : ℕ) → a + c ≡ b + d → c ≡ d → a ≡ b
    cancel a b c d h k = omega arith

-- if neither of two keys is below the other, nor one of the two numbers, the keys and the numbers are equal
order : (kx ki tx ti : ℕ) → nat_le ki kx ≡ true → (nat_lt ki kx || ((ki == kx) && nat_lt ti tx)) ≡ false → not ((kx == ki) && nat_lt tx ti) ≡ true → (kx ≡ ki) × (tx ≡ ti)
order kx ki tx ti a b c = (grind (arith, nat_tests), grind (arith, nat_tests))

-- the job of a tick is chosen: its key is a least one of the pending jobs, and no lower number has that key
pub chosen_is : (set : List Task) (rule : Rule) (h : List Row) (j : JobId) → AllByRecursion IsTask set → Fits rule → Legal set rule h →
    is_least set rule (high_mode rule h) (pending set h) j ≡ true → is_lowest set rule (high_mode rule h) (pending set h) j ≡ true → chosen set rule h ≡ Some j
chosen_is set rule h j s f l least lowest = go (first_to_run set rule high xs) refl
  where
    high : Bool
    high = high_mode rule h

    xs : List KeptRelease
    xs = pending set h

    i : Found (λ z. same_job j z.job && none_below set rule high (key set rule high z) xs) xs
    i = found (λ z. same_job j z.job && none_below set rule high (key set rule high z) xs) xs least

    of_i : (same_job j i.kept.job ≡ true) × (none_below set rule high (key set rule high i.kept) xs ≡ true)
    of_i = and_parts (same_job j i.kept.job) (none_below set rule high (key set rule high i.kept) xs) i.passes

    i_job : i.kept.job ≡ j
    i_job = sym (job_eq j i.kept.job of_i.0)

    k : Found (λ z. same_job j z.job && none_lower set rule high z xs) xs
    k = found (λ z. same_job j z.job && none_lower set rule high z xs) xs lowest

    of_k : (same_job j k.kept.job ≡ true) × (none_lower set rule high k.kept xs ≡ true)
    of_k = and_parts (same_job j k.kept.job) (none_lower set rule high k.kept xs) k.passes

    -- k and i have the same pending job
    one : k.kept ≡ i.kept
    one =
        each_in (λ (z : KeptRelease). same_job i.kept.job z.job ≡ true → z ≡ i.kept) k.kept xs k.inside (only i.kept xs (pending_apart set rule h s l) i.inside)
        (subst (λ (n : JobId). same_job n k.kept.job ≡ true) (sym i_job) of_k.0)

    low : none_lower set rule high i.kept xs ≡ true
    low = subst (λ (z : KeptRelease). none_lower set rule high z xs ≡ true) one of_k.1

    go : (o : Option KeptRelease) → first_to_run set rule high xs ≡ o → option_map (λ (x : KeptRelease). x.job) (first_to_run set rule high xs) ≡ Some j
    go None m = absurd (none xs m i.inside)
      where
        none : (ys : List KeptRelease) → first_to_run set rule high ys ≡ None → is_in ys i.kept ≡ true → ⊥
        none [] m e = cc
        none (y ∷ ys) m e = cc
    go (Some x) m =
        let first : IsFirst set rule high xs x = is_first set rule high xs x m in
        let le : nat_le (key set rule high i.kept) (key set rule high x) ≡ true = listed (λ (z : KeptRelease). nat_le (key set rule high i.kept) (key set rule high z)) x xs first.inside of_i.1 in
        let nb : runs_before set rule high i.kept x ≡ false = each_in (λ (z : KeptRelease). runs_before set rule high z x ≡ false) i.kept xs i.inside first.none_before in
        let lx : not ((key set rule high x == key set rule high i.kept) && nat_lt x.job.task.0 i.kept.job.task.0) ≡ true =
        listed (λ (z : KeptRelease). not ((key set rule high z == key set rule high i.kept) && nat_lt z.job.task.0 i.kept.job.task.0)) x xs first.inside low in
        let eq = order (key set rule high x) (key set rule high i.kept) x.job.task.0 i.kept.job.task.0 le nb lx in
        let time : i.kept.release ≡ x.release = sym (key-inj rule high set x i.kept f eq.1 eq.0) in
        let same : x ≡ i.kept = each_in (λ (z : KeptRelease). i.kept.job.task.0 ≡ z.job.task.0 → i.kept.release ≡ z.release → z ≡ i.kept) x xs first.inside (alike i.kept xs (pending_apart set rule h s l) i.inside) (sym eq.1) time in
        ap (option_map (λ (z : KeptRelease). z.job)) m ∙ ap (λ (k : JobId). Some k) (ap (λ (z : KeptRelease). z.job) same ∙ i_job)
