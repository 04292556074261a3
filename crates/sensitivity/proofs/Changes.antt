-- A set with a change of one task.
use Rattle.std.proofs.Common.{◌≡◌, ℕ, zero, suc, ◌+◌, ◌-◌, ◌*◌, ◌/◌, ◌^◌, ◌<◌, ◌≤◌, refl, sym, ap, subst, ◌∙◌, arith, List, [], ◌∷◌, length, Some, slice_get}
use Rattle.std.proofs.Math.Nat.{mul-le-mul_left, mul-le-mul_right, mul-pos, eq_of_mul-eq-mul_right, div-le_self}
use Rattle.std.specs.List.{AllByRecursion}
use Rattle.mc_task.specs.declared.task.Task.{Task}
use Rattle.mc_task.specs.TaskSet.{AreTasks, IsTask, Distinct, names_of, task_at}
use Rattle.tick_frac.specs.Numbers.{lcm}
use Rattle.mc_model.specs.Loads.{product, load, lcm_from, low_low, high_low, high_high}
use Rattle.mc_model.proofs.Loads.{scale_of}
use Rattle.mc_model.proofs.Tasks.{task_at-in}
use Rattle.load_sum.specs.declared.loads.Loads.{Loads}
use Rattle.load_sum.specs.Belong.{BelongTo}
use Rattle.load_sum.proofs.BelongTo.{BelongTo-from_sums}
use Rattle.sensitivity.specs.Budgets.{changed}
use Rattle.sensitivity.specs.Changes.{DifferBy}

-- task number k stands at index k - 1
pub at-index : (set : List Task) (k : ℕ) (t : Task) → task_at set k ≡ Some t → slice_get set (k - 1) ≡ Some t
at-index set zero t h = absurd (cc h)
at-index set (suc k) t h = sym (task_at-in set (suc k) (omega arith)) ∙ h

-- a change keeps the names and the periods
pub record Keeps (f : Task → Task) : Type 0 where
  pub name : (t : Task) → (f t).name ≡ t.name
  pub period : (t : Task) → (f t).period ≡ t.period

length-changed : (f : Task → Task) (i : ℕ) (ts : List Task) → length (changed f i ts) ≡ length ts
unfolding changed
length-changed f i [] = refl
length-changed f zero (t ∷ ts) = refl
length-changed f (suc i) (t ∷ ts) = ap (λ n. suc n) (length-changed f i ts)

each-changed : (f : Task → Task) (i : ℕ) (ts : List Task) (t : Task) → slice_get ts i ≡ Some t → AllByRecursion IsTask ts → IsTask (f t)
    → AllByRecursion IsTask (changed f i ts)
unfolding changed
each-changed f i [] t at each is = tt
each-changed f zero (x ∷ xs) t at each is = let same : t ≡ x = cc at in (subst (λ y. IsTask (f y)) same is, each.1)
each-changed f (suc i) (x ∷ xs) t at each is = (each.0, each-changed f i xs t at each.1 is)

names-changed : (f : Task → Task) (i : ℕ) (ts : List Task) → Keeps f → names_of (changed f i ts) ≡ names_of ts
unfolding changed
names-changed f i [] k = refl
names-changed f zero (t ∷ ts) k = ap (λ n. n ∷ names_of ts) (k.name t)
names-changed f (suc i) (t ∷ ts) k = ap (λ ns. t.name ∷ ns) (names-changed f i ts k)

pub changed-AreTasks : (f : Task → Task) (i : ℕ) (ts : List Task) (t : Task) → Keeps f → slice_get ts i ≡ Some t → AreTasks ts → IsTask (f t) → AreTasks (changed f i ts)
changed-AreTasks f i ts t k at are is =
    let long = length-changed f i ts in
    record {
      some = omega (arith, long, are.some);
      few = omega (arith, long, are.few);
      each = each-changed f i ts t at are.each is;
      names = subst (λ ns. Distinct ns) (sym (names-changed f i ts k)) are.names;
    }

pub product-changed : (f : Task → Task) (i : ℕ) (ts : List Task) → Keeps f → product (changed f i ts) ≡ product ts
unfolding changed
product-changed f i [] k = refl
product-changed f zero (t ∷ ts) k = ap (λ p. p * product ts) (k.period t)
product-changed f (suc i) (t ∷ ts) k = ap (λ p. t.period * p) (product-changed f i ts k)

lcm_from-changed : (f : Task → Task) (i : ℕ) (ts : List Task) (m : ℕ) → Keeps f → lcm_from m (changed f i ts) ≡ lcm_from m ts
unfolding changed lcm_from
lcm_from-changed f i [] m k = refl
lcm_from-changed f zero (t ∷ ts) m k = ap (λ p. lcm_from (lcm m p) ts) (k.period t)
lcm_from-changed f (suc i) (t ∷ ts) m k = lcm_from-changed f i ts (lcm m t.period) k

-- a load with the change: less what the task asked for, and more what it then asks for
pub load-changed : (budget : Task → ℕ) (n : ℕ) (f : Task → Task) (i : ℕ) (ts : List Task) (t : Task) → Keeps f → slice_get ts i ≡ Some t
    → load budget n (changed f i ts) + budget t * (n / t.period) ≡ load budget n ts + budget (f t) * (n / t.period)
unfolding changed
load-changed budget n f i [] t k at = absurd (cc at)
load-changed budget n f zero (x ∷ xs) t k at =
    let same : x ≡ t = cc at in
    let here : budget (f x) * (n / (f x).period) ≡ budget (f t) * (n / t.period) =
    ap (λ p. budget (f x) * (n / p)) (k.period x) ∙ ap (λ (y : Task). budget (f y) * (n / y.period)) same in
    let was : budget x * (n / x.period) ≡ budget t * (n / t.period) = ap (λ (y : Task). budget y * (n / y.period)) same in
    omega (arith, here, was)
load-changed budget n f (suc i) (x ∷ xs) t k at =
    let others = load-changed budget n f i xs t k at in
    omega (arith, others)

-- one task asks for no more than all
pub load-part : (budget : Task → ℕ) (n i : ℕ) (ts : List Task) (t : Task) → slice_get ts i ≡ Some t → budget t * (n / t.period) ≤ load budget n ts
load-part budget n i [] t at = absurd (cc at)
load-part budget n zero (x ∷ xs) t at =
    let same : x ≡ t = cc at in
    let was : budget x * (n / x.period) ≡ budget t * (n / t.period) = ap (λ (y : Task). budget y * (n / y.period)) same in
    omega (arith, was)
load-part budget n (suc i) (x ∷ xs) t at = let others = load-part budget n i xs t at in omega (arith, others)

-- a load is no more if the changed task's budget is no more
pub load-less : (budget : Task → ℕ) (n : ℕ) (f g : Task → Task) (i : ℕ) (ts : List Task) (t : Task) → Keeps f → Keeps g → slice_get ts i ≡ Some t
    → budget (f t) ≤ budget (g t) → load budget n (changed f i ts) ≤ load budget n (changed g i ts)
load-less budget n f g i ts t kf kg at less =
    let one = load-changed budget n f i ts t kf at in
    let other = load-changed budget n g i ts t kg at in
    let more = mul-le-mul_right (n / t.period) less in
    omega (arith, one, other, more)

-- a load is small if each budget is
pub load-small : (budget : Task → ℕ) (n : ℕ) (ts : List Task) → ((t : Task) → IsTask t → budget t ≤ 2 ^ 32) → AllByRecursion IsTask ts
    → load budget n ts ≤ length ts * (2 ^ 32 * n)
load-small budget n [] most each = omega arith
load-small budget n (t ∷ ts) most each =
    let part : 2 ^ 32 * (n / t.period) ≤ 2 ^ 32 * n = mul-le-mul_left (2 ^ 32) (div-le_self n t.period) in
    let one : budget t * (n / t.period) ≤ 2 ^ 32 * (n / t.period) = mul-le-mul_right (n / t.period) (most t each.0) in
    let others = load-small budget n ts most each.1 in
    omega (arith, part, one, others)

-- the numerators of loads are sums over the tasks
pub record AreSums (tasks : List Task) (loads : Loads) : Type 0 where
  pub low_low : loads.low_low ≡ load low_low loads.lcm tasks
  pub high_low : loads.high_low ≡ load high_low loads.lcm tasks
  pub high_high : loads.high_high ≡ load high_high loads.lcm tasks

sum-of : (x k l p a s : ℕ) → 0 < k → 0 < l → p ≡ k * l → a ≡ k * s → x * p ≡ a * l → x ≡ s
sum-of x k l p a s above some whole part same =
    let turned : x * (k * l) ≡ s * (k * l) = ap (λ z. x * z) (sym whole) ∙ same ∙ ap (λ z. z * l) part ∙ omega arith in
    eq_of_mul-eq-mul_right (k * l) (mul-pos above some) x s turned

pub AreSums-from_BelongTo : (tasks : List Task) (loads : Loads) → BelongTo tasks loads → AreSums tasks loads
AreSums-from_BelongTo tasks loads b =
    let (k, s) = scale_of tasks b.set.each in
    let whole : product tasks ≡ k * loads.lcm = s.periods ∙ ap (λ l. k * l) (sym b.lcm) in
    record {
      low_low = sum-of loads.low_low k loads.lcm (product tasks) _ _ s.above b.above whole (s.low_low ∙ ap (λ l. k * load low_low l tasks) (sym b.lcm)) b.low_low;
      high_low = sum-of loads.high_low k loads.lcm (product tasks) _ _ s.above b.above whole (s.high_low ∙ ap (λ l. k * load high_low l tasks) (sym b.lcm)) b.high_low;
      high_high = sum-of loads.high_high k loads.lcm (product tasks) _ _ s.above b.above whole (s.high_high ∙ ap (λ l. k * load high_high l tasks) (sym b.lcm)) b.high_high;
    }

new-sum : (budget : Task → ℕ) (x y l m : ℕ) (f : Task → Task) (i : ℕ) (ts : List Task) (t : Task) → Keeps f → slice_get ts i ≡ Some t
    → m ≡ l → y ≡ load budget l ts → x + budget t * (l / t.period) ≡ y + budget (f t) * (l / t.period) → x ≡ load budget m (changed f i ts)
new-sum budget x y l m f i ts t k at same was differ =
    let is = load-changed budget l f i ts t k at in
    let over : load budget m (changed f i ts) ≡ load budget l (changed f i ts) = ap (λ z. load budget z (changed f i ts)) same in
    omega (arith, is, was, differ, over)

-- the new loads belong to the changed set
pub changed-BelongTo : (f : Task → Task) (i : ℕ) (ts : List Task) (t : Task) (old new : Loads) → Keeps f → slice_get ts i ≡ Some t → IsTask (f t)
    → BelongTo ts old → DifferBy t (f t) old new → BelongTo (changed f i ts) new
changed-BelongTo f i ts t old new k at is b d =
    let sums = AreSums-from_BelongTo ts old b in
    BelongTo-from_sums (changed f i ts) new (changed-AreTasks f i ts t k at b.set is) (d.lcm ∙ b.lcm ∙ sym (lcm_from-changed f i ts 1 k))
    (let above = b.above in omega (arith, above, d.lcm)) (let within = b.within in omega (arith, within, d.lcm))
    (new-sum low_low new.low_low old.low_low old.lcm new.lcm f i ts t k at d.lcm sums.low_low d.low_low)
    (new-sum high_low new.high_low old.high_low old.lcm new.lcm f i ts t k at d.lcm sums.high_low d.high_low)
    (new-sum high_high new.high_high old.high_high old.lcm new.lcm f i ts t k at d.lcm sums.high_high d.high_high)
