-- What the tasks of a set asked for, against their loads.
use Rattle.std.proofs.Common.{◌≡◌, ℕ, suc, ◌+◌, ◌*◌, ◌/◌, ◌≤◌, List, [], ◌∷◌, Some, slice_get, refl, sym, ap, arith, mul-le-mul_left, add-zero}
use Rattle.std.specs.List.{AllByRecursion}
use Rattle.mc_task.specs.declared.task.Task.{Task}
use Rattle.mc_task.specs.TaskSet.{IsTask}
use Rattle.mc_model.specs.Loads.{product, load}
use Rattle.mc_model.proofs.NumberedSums.{sum_numbered}

-- each period divides the product
abbrev pub Divides : ℕ → List Task → Type 0
Divides p [] = Unit {0}
Divides p (t ∷ ts) = (p / t.period * t.period ≡ p) × Divides p ts

-- a product divides by its factor
exact : (a b : ℕ) → 1 ≤ a → (a * b) / a * a ≡ a * b
exact a b h = grind arith

-- what divides p divides its multiples
divides_more : (c p : ℕ) (ts : List Task) → AllByRecursion IsTask ts → Divides p ts → Divides (c * p) ts
divides_more c p [] s d = tt
divides_more c p (t ∷ ts) s d = (times c p t.period s.0.period.0 d.0, divides_more c p ts s.1 d.1)
  where
    times : (c p n : ℕ) → 1 ≤ n → p / n * n ≡ p → (c * p) / n * n ≡ c * p
    times c p n h e =
        let m = p / n in
        let q : c * p ≡ c * (m * n) = ap (λ (x : ℕ). c * x) (sym e) in
        let r : c * p ≡ n * (c * m) = omega (arith, q) in
        rw r (exact n (c * m) h)

-- each period divides the product of the periods
pub divides : (ts : List Task) → AllByRecursion IsTask ts → Divides (product ts) ts
divides [] s = tt
divides (t ∷ ts) s = (exact t.period (product ts) s.0.period.0, divides_more t.period (product ts) ts s.1 (divides ts s.1))

-- a bound for one task, as one for its part of the sum
one_task : (d c n f l p w : ℕ) → d * c * n ≤ f * l → w * n ≡ p → d * c * p ≤ l * (f * w)
one_task d c n f l p w h e =
    let a : w * (d * c * n) ≤ w * (f * l) = mul-le-mul_left w h in
    let b : d * c * p ≡ d * c * (w * n) = ap (λ (x : ℕ). d * c * x) (sym e) in
    omega (arith, a, b)

-- what the tasks asked for, against their load
pub sum_bound :
    (ts : List Task) (d : ℕ → ℕ) (f : Task → ℕ) (c l p i : ℕ) → Divides p ts →
    ((k : ℕ) (t : Task) → slice_get ts k ≡ Some t → d (i + k) * c * t.period ≤ f t * l) →
    sum_numbered ts d i * c * p ≤ l * load f p ts
sum_bound [] d f c l p i v h = omega arith
sum_bound (t ∷ ts) d f c l p i v h =
    let here : d i * c * t.period ≤ f t * l = rw add-zero at (h 0 t refl) in
    let one : d i * c * p ≤ l * (f t * (p / t.period)) = one_task (d i) c t.period (f t) l p (p / t.period) here v.0 in
    let rest : sum_numbered ts d (i + 1) * c * p ≤ l * load f p ts = sum_bound ts d f c l p (i + 1) v.1 (λ k u e. rw (← shift i k) at (h (suc k) u e)) in
    omega arith
  where
    shift : (i k : ℕ) → (i + 1) + k ≡ i + suc k
    shift i k = omega arith

-- the load of a sum of budgets
pub load-linear : (a b : ℕ) (f g : Task → ℕ) (p : ℕ) (ts : List Task) → load (λ t. a * f t + b * g t) p ts ≡ a * load f p ts + b * load g p ts
load-linear a b f g p [] = omega arith
load-linear a b f g p (t ∷ ts) =
    let ih : load (λ t. a * f t + b * g t) p ts ≡ a * load f p ts + b * load g p ts = load-linear a b f g p ts in
    omega arith
