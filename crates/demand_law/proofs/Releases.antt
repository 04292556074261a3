-- One more release of a task: the next one is later, and what the task asked for stays within its rate.
use Rattle.std.proofs.Common.{◌≡◌, ℕ, ◌+◌, ◌-◌, ◌*◌, ◌≤◌, Bool, true, false, List, ◌∷◌, cond, ◌==◌, refl, ap, subst, arith, le_refl, eqb-true, mul-le-mul_left}
use Rattle.mc_task.specs.declared.task.Task.{Task}
use Rattle.mc_task.specs.declared.task.JobId.{JobId}
use Rattle.mc_task.specs.TaskSet.{task_at}
use Rattle.mc_model.specs.declared.row.Row.{Row}
use Rattle.mc_model.specs.declared.row.Row.TheVariants.{Release}
use Rattle.mc_model.specs.TaskNumbers.{period_in}
use Rattle.mc_model.specs.Rows.{ticks, next_release}

-- the next release that is allowed is never earlier after a release
pub next_release-grows : (set : List Task) (j : JobId) (kept : Bool) (g : List Row) (k : ℕ) → next_release set g j.task.0 ≤ ticks g → next_release set g k ≤ next_release set (Release j kept ∷ g) k
next_release-grows set j kept g k soon = go (j.task.0 == k) refl
  where
    go : (b : Bool) → (j.task.0 == k) ≡ b → next_release set g k ≤ cond (j.task.0 == k) (ticks g + period_in (task_at set k)) (next_release set g k)
    go true m =
        let s : next_release set g k ≤ ticks g = subst (λ i. next_release set g i ≤ ticks g) (eqb-true _ _ m) soon in
        rw m (omega (arith, s))
    go false m = rw m (le_refl _)

-- d ticks asked for from t to the next release n, and b more at r: at most b a period from t to r + p
pub more_next : (d b n t r p : ℕ) → d * p ≤ b * (n - t) → n ≤ r → t ≤ r → (d + b) * p ≤ b * ((r + p) - t)
more_next d b n t r p h u v =
    let w : b * (n - t) ≤ b * (r - t) = mul-le-mul_left b (omega arith) in
    let e : (r + p) - t ≡ (r - t) + p = omega arith in
    rw e (omega (arith, w, h))

-- a product with a difference is a difference of products
pub times_sub : (q r t : ℕ) → t ≤ r → q * (r - t) + q * t ≡ q * r
times_sub q r t v =
    let e : (r - t) + t ≡ r = omega arith in
    let f : q * ((r - t) + t) ≡ q * r = ap (λ (z : ℕ). q * z) e in
    omega (arith, f)

-- d ticks asked for from t to n, and b more at r: within the rate up to a key o past q * r, in units of 1 /
-- q, where w stands past q * t
pub more_reach : (d b n t r p o w q : ℕ) → d * p ≤ b * (n - t) → n ≤ r → t ≤ r → o ≤ q * p → q * r + o ≤ q * t + w → (d + b) * o ≤ b * w
more_reach d b n t r p o w q h u v ol kl =
    let a : b * (n - t) ≤ b * (r - t) = mul-le-mul_left b (omega arith) in
    let x : d * o ≤ d * (q * p) = mul-le-mul_left d ol in
    let y : q * (d * p) ≤ q * (b * (r - t)) = mul-le-mul_left q (omega (arith, a, h)) in
    let s : q * (r - t) + q * t ≡ q * r = times_sub q r t v in
    let z : b * (q * (r - t) + o) ≤ b * w = mul-le-mul_left b (omega (arith, s, kl)) in
    omega (arith, x, y, z)
