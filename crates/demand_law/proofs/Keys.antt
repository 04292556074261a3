-- Keys of pending jobs, and a bound that none of them is below.
use Rattle.std.proofs.Common.{◌≡◌, ℕ, ◌+◌, ◌-◌, ◌*◌, ◌≤◌, Bool, true, false, ◌&&◌, List, [], ◌∷◌, cond, filter, nat_le, refl, sym, subst, arith, leb-true, leb-false, le-leb, le_of_mul-le-mul_right, ◌<◌}
use Rattle.std.proofs.lemmas.Bool.Decides.{nat_tests}
use Rattle.mc_task.specs.declared.task.Rule.{Rule}
use Rattle.mc_task.specs.declared.task.Task.{Task}
use Rattle.mc_task.specs.declared.task.JobId.{JobId}
use Rattle.mc_model.specs.Pending.{KeptRelease}
use Rattle.mc_model.specs.Rows.{same_job}
use Rattle.mc_model.specs.Legal.{none_below}
use Rattle.mc_model.specs.Key.{key}
use Rattle.mc_model.proofs.Lists.{Each}
use Rattle.mc_model.proofs.Jobs.{is_in, same_live, live_eq}
use Rattle.std.proofs.lemmas.Bool.{and_parts}

-- a number that is at least b + 1 is not at most b
pub above : (a b : ℕ) → nat_le (b + 1) a ≡ true → nat_le a b ≡ false
above a b h = grind (arith, nat_tests)

-- a deadline from its key: q units are a tick
pub cancel_scale : (q r n e : ℕ) → 1 ≤ q → q * r + q * n ≤ q * e → r + n ≤ e
cancel_scale q r n e pos h = let z : (r + n) * q ≤ e * q = omega (arith, h) in le_of_mul-le-mul_right {k = q} z pos

-- what is left of a budget, of a job that counts, falls as its ticks grow
pub weight_falls : (le : Bool) (b u c : ℕ) → cond le (b - (c + u)) 0 ≤ cond le (b - u) 0
weight_falls true b u c = omega arith
weight_falls false b u c = omega arith

-- what is left of a budget is at most the budget
pub weight-le : (le : Bool) (b u : ℕ) → cond le (b - u) 0 ≤ b
weight-le true b u = omega arith
weight-le false b u = omega arith

-- if no key is below a bound, none is below a lesser bound
pub none_below_less : (set : List Task) (rule : Rule) (high : Bool) (m n : ℕ) (xs : List KeptRelease) → m ≤ n → none_below set rule high n xs ≡ true → none_below set rule high m xs ≡ true
none_below_less set rule high m n [] h e = refl
none_below_less set rule high m n (x ∷ xs) h e =
    let p = and_parts _ _ e in
    let q : n ≤ key set rule high x = leb-true n (key set rule high x) p.0 in
    let l : m ≤ key set rule high x = omega (arith, q, h) in
    rw (le-leb _ _ l) (none_below_less set rule high m n xs h p.1)

-- if no key is below a bound, none of what a filter keeps is
pub none_below-filter : (set : List Task) (rule : Rule) (high : Bool) (n : ℕ) (p : KeptRelease → Bool) (xs : List KeptRelease) → none_below set rule high n xs ≡ true → none_below set rule high n (filter p xs) ≡ true
none_below-filter set rule high n p [] e = e
none_below-filter set rule high n p (x ∷ xs) e =
    let q = and_parts (nat_le n (key set rule high x)) (none_below set rule high n xs) e in
    let ih : none_below set rule high n (filter p xs) ≡ true = none_below-filter set rule high n p xs q.1 in
    elim (p x) as (λ b. none_below set rule high n (cond b (x ∷ filter p xs) (filter p xs)) ≡ true)
    [ true ↦ rw q.0 ih | false ↦ ih ]

-- the key of one of the jobs is not below the bound
pub key_in : (set : List Task) (rule : Rule) (high : Bool) (n : ℕ) (i : KeptRelease) (xs : List KeptRelease) → is_in xs i ≡ true → none_below set rule high n xs ≡ true → n ≤ key set rule high i
key_in set rule high n i [] e f = cc
key_in set rule high n i (x ∷ xs) e f = go (λ r. key_in set rule high n i xs r (and_parts (nat_le n (key set rule high x)) (none_below set rule high n xs) f).1) (same_live i x) refl
  where
    go : (is_in xs i ≡ true → n ≤ key set rule high i) → (b : Bool) → same_live i x ≡ b → n ≤ key set rule high i
    go ih true m =
        let p : n ≤ key set rule high x = leb-true _ _ (and_parts (nat_le n (key set rule high x)) (none_below set rule high n xs) f).0 in
        subst (λ y. n ≤ key set rule high y) (sym (live_eq i x m)) p
    go ih false m = ih (rw m at e)

-- if no key is below n + 1, each key is above n
pub keys_above : (set : List Task) (rule : Rule) (high : Bool) (n : ℕ) (xs : List KeptRelease) → none_below set rule high (n + 1) xs ≡ true → Each (λ x. n < key set rule high x) xs
keys_above set rule high n [] e = tt
keys_above set rule high n (x ∷ xs) e =
    let p = and_parts (nat_le (n + 1) (key set rule high x)) (none_below set rule high (n + 1) xs) e in
    let l : n + 1 ≤ key set rule high x = leb-true _ _ p.0 in
    (omega (arith, l), keys_above set rule high n xs p.1)

-- if not all keys are above kappa, a least key is at most kappa
not_above : (set : List Task) (rule : Rule) (high : Bool) (kappa : ℕ) (all : List KeptRelease) (x : KeptRelease) → none_below set rule high (kappa + 1) all ≡ false → none_below set rule high (key set rule high x) all ≡ true → nat_le (key set rule high x) kappa ≡ true
not_above set rule high kappa all x busy e = go (nat_le (key set rule high x) kappa) refl
  where
    go : (b : Bool) → nat_le (key set rule high x) kappa ≡ b → b ≡ true
    go true m = refl
    go false m =
        let l : kappa + 1 ≤ key set rule high x = let q = leb-false _ _ m in omega arith in
        let f = none_below_less set rule high (kappa + 1) (key set rule high x) all l e in
        cc (f, busy)

-- whether this is job i and has a least key of these pending jobs
abbrev pub is_taken : List Task → Rule → Bool → JobId → List KeptRelease → KeptRelease → Bool
is_taken set rule high j now i = same_job j i.job && none_below set rule high (key set rule high i) now

-- the pending job that a tick is given to is the tick's job, and has a key of at most kappa
pub least_low : (set : List Task) (rule : Rule) (high : Bool) (kappa : ℕ) (j : JobId) (all : List KeptRelease) (x : KeptRelease) → none_below set rule high (kappa + 1) all ≡ false → is_taken set rule high j all x ≡ true
    → (same_job j x.job ≡ true) × (nat_le (key set rule high x) kappa ≡ true)
least_low set rule high kappa j all x busy e =
    let p = and_parts _ _ e in
    (p.0, not_above set rule high kappa all x busy p.1)
