-- A set with a percentage of its high budgets.
use Rattle.std.proofs.Common.{◌≡◌, ℕ, ◌+◌, ◌*◌, ◌/◌, ◌≤◌, refl, sym, ap, subst, ◌∙◌, arith, List, [], ◌∷◌, length}
use Rattle.std.proofs.lemmas.List.{length-map}
use Rattle.std.proofs.Math.Nat.{mul-le-mul_left, mul-le-mul_right}
use Rattle.std.specs.List.{AllByRecursion}
use Rattle.mc_task.specs.declared.task.Task.{Task}
use Rattle.mc_task.specs.declared.task.Level.{Level}
use Rattle.mc_task.specs.declared.task.Level.TheVariants.{Low, High}
use Rattle.mc_task.specs.TaskSet.{AreTasks, IsTask, IsTickCount, InOrder, Distinct, names_of}
use Rattle.tick_frac.specs.Numbers.{lcm}
use Rattle.mc_model.specs.Loads.{product, load, lcm_from, hyperperiod, low_low, high_low, high_high, load_ll, load_hl, load_hh, by_level}
use Rattle.mc_model.proofs.Loads.{scale_of}
use Rattle.load_sum.specs.declared.loads.Loads.{Loads}
use Rattle.load_sum.specs.Belong.{BelongTo}
use Rattle.study.specs.Stretch.{percent, with_percent, at_percent}
use Rattle.study.specs.Loads.{with_high}
use Rattle.load_sum.proofs.BelongTo.{across}

high_at-count : (s : ℕ) (l : Level) (low high : ℕ) → IsTickCount low → IsTickCount high → IsTickCount (by_level l high (percent low high s))
high_at-count s Low low high a b = b
high_at-count s High low high a b = (omega (arith, a.0, a.1), omega (arith, a.0, a.1))

high_at-order : (s : ℕ) (l : Level) (low high : ℕ) → InOrder l low high → InOrder l low (by_level l high (percent low high s))
high_at-order s Low low high h = h
high_at-order s High low high h = omega arith

with_percent-IsTask : (s : ℕ) (t : Task) → IsTask t → IsTask (with_percent s t)
with_percent-IsTask s t is = record {
  name = is.name;
  period = is.period;
  low = is.low;
  high = high_at-count s t.level t.low t.high is.low is.high;
  budgets = high_at-order s t.level t.low t.high is.budgets;
}

each-at : (s : ℕ) (ts : List Task) → AllByRecursion IsTask ts → AllByRecursion IsTask (at_percent ts s)
each-at s [] h = tt
each-at s (t ∷ ts) h = (with_percent-IsTask s t h.0, each-at s ts h.1)

names-at : (s : ℕ) (ts : List Task) → names_of (at_percent ts s) ≡ names_of ts
names-at s [] = refl
names-at s (t ∷ ts) = ap (λ ns. t.name ∷ ns) (names-at s ts)

pub at_percent-AreTasks : (set : List Task) (s : ℕ) → AreTasks set → AreTasks (at_percent set s)
at_percent-AreTasks set s is =
    let long : length (at_percent set s) ≡ length set = length-map set (with_percent s) in
    record {
      some = omega (arith, long, is.some);
      few = omega (arith, long, is.few);
      each = each-at s set is.each;
      names = subst (λ ns. Distinct ns) (sym (names-at s set)) is.names;
    }

pub product-at : (s : ℕ) (ts : List Task) → product (at_percent ts s) ≡ product ts
product-at s [] = refl
product-at s (t ∷ ts) = ap (λ p. t.period * p) (product-at s ts)

lcm_from-at : (s : ℕ) (ts : List Task) (m : ℕ) → lcm_from m (at_percent ts s) ≡ lcm_from m ts
unfolding lcm_from
lcm_from-at s [] m = refl
lcm_from-at s (t ∷ ts) m = lcm_from-at s ts (lcm m t.period)

-- a sum over the set at s percent is a sum over the set
pub load-at : (budget own : Task → ℕ) (s n : ℕ) → ((t : Task) → budget (with_percent s t) ≡ own t) → (ts : List Task)
    → load budget n (at_percent ts s) ≡ load own n ts
load-at budget own s n same [] = refl
load-at budget own s n same (t ∷ ts) =
    ap (λ b. b * (n / t.period) + load budget n (at_percent ts s)) (same t) ∙ ap (λ r. own t * (n / t.period) + r) (load-at budget own s n same ts)

pub load_ll-at : (s : ℕ) (ts : List Task) → load_ll (at_percent ts s) ≡ load_ll ts
load_ll-at s ts = ap (λ p. load low_low p (at_percent ts s)) (product-at s ts) ∙ load-at low_low low_low s (product ts) (λ t. refl) ts

pub load_hl-at : (s : ℕ) (ts : List Task) → load_hl (at_percent ts s) ≡ load_hl ts
load_hl-at s ts = ap (λ p. load high_low p (at_percent ts s)) (product-at s ts) ∙ load-at high_low high_low s (product ts) (λ t. refl) ts

-- a lower percentage of a high budget is no more
budget-grows : (l : Level) (low high r s : ℕ) → r ≤ s → by_level l 0 (by_level l high (percent low high r)) ≤ by_level l 0 (by_level l high (percent low high s))
budget-grows Low low high r s h = omega arith
budget-grows High low high r s h = omega (arith, mul-le-mul_left high h)

pub load_high-grows : (n r s : ℕ) (ts : List Task) → r ≤ s → load high_high n (at_percent ts r) ≤ load high_high n (at_percent ts s)
load_high-grows n r s [] h = omega arith
load_high-grows n r s (t ∷ ts) h =
    let here = mul-le-mul_right (n / t.period) (budget-grows t.level t.low t.high r s h) in
    omega (arith, here, load_high-grows n r s ts h)

pub load_hh-grows : (r s : ℕ) (ts : List Task) → r ≤ s → load_hh (at_percent ts r) ≤ load_hh (at_percent ts s)
load_hh-grows r s ts h = rw (product-at r ts, product-at s ts) (load_high-grows (product ts) r s ts h)

-- a product equation, with equal numbers in place of its own
over : {p q a b : ℕ} (x l : ℕ) → q ≡ p → b ≡ a → x * p ≡ a * l → x * q ≡ b * l
over x l same equal h = ap (λ z. x * z) same ∙ h ∙ ap (λ z. z * l) (sym equal)

-- the loads with the numerator of U_HH at s percent belong to the set at s percent
pub at_percent-BelongTo : (set : List Task) (loads : Loads) (s c : ℕ) → BelongTo set loads → c ≡ load high_high loads.lcm (at_percent set s)
    → BelongTo (at_percent set s) (with_high loads c)
at_percent-BelongTo set loads s c b is =
    let own : AreTasks (at_percent set s) = at_percent-AreTasks set s b.set in
    let lcm : loads.lcm ≡ hyperperiod (at_percent set s) = b.lcm ∙ sym (lcm_from-at s set 1) in
    let (k, scale) = scale_of (at_percent set s) own.each in
    record {
      set = own;
      lcm = lcm;
      above = b.above;
      within = b.within;
      low_low = over loads.low_low loads.lcm (product-at s set) (load_ll-at s set) b.low_low;
      high_low = over loads.high_low loads.lcm (product-at s set) (load_hl-at s set) b.high_low;
      high_high = across c k loads.lcm (product (at_percent set s)) (load_hh (at_percent set s)) (scale.periods ∙ ap (λ l. k * l) (sym lcm))
          (scale.high_high ∙ ap (λ l. k * load high_high l (at_percent set s)) (sym lcm) ∙ ap (λ x. k * x) (sym is));
    }
