-- Loads that belong to a set, and what follows from them for the set.
use Rattle.std.proofs.Common.{◌≡◌, ℕ, ◌*◌, ◌<◌, ◌≤◌, List, sym, ◌∙◌, ap, arith}
use Rattle.std.proofs.Math.Nat.{eq_of_mul-eq-mul_right}
use Rattle.mc_task.specs.declared.task.Task.{Task}
use Rattle.mc_task.specs.TaskSet.{AreTasks}
use Rattle.mc_model.specs.Loads.{product, load, hyperperiod, most_lcm, low_low, high_low, high_high, load_ll, load_hl, load_hh}
use Rattle.mc_model.proofs.Loads.{scale_of}
use Rattle.load_sum.specs.declared.loads.Loads.{Loads}
use Rattle.load_sum.specs.Belong.{BelongTo}

-- x over l equals k * x over k * l
pub across : (x k l p a : ℕ) → p ≡ k * l → a ≡ k * x → x * p ≡ a * l
across x k l p a whole part = ap (λ z. x * z) whole ∙ omega arith ∙ ap (λ z. z * l) (sym part)

pub BelongTo-from_sums : (tasks : List Task) (loads : Loads) → AreTasks tasks → loads.lcm ≡ hyperperiod tasks → 0 < loads.lcm → loads.lcm ≤ most_lcm
    → loads.low_low ≡ load low_low loads.lcm tasks → loads.high_low ≡ load high_low loads.lcm tasks → loads.high_high ≡ load high_high loads.lcm tasks
    → BelongTo tasks loads
BelongTo-from_sums tasks loads set lcm above within low_low_is high_low_is high_high_is =
    let (k, s) = scale_of tasks set.each in
    let whole : product tasks ≡ k * loads.lcm = s.periods ∙ ap (λ l. k * l) (sym lcm) in
    record {
      set = set;
      lcm = lcm;
      above = above;
      within = within;
      low_low = across loads.low_low k loads.lcm (product tasks) (load_ll tasks) whole (s.low_low ∙ ap (λ l. k * load low_low l tasks) (sym lcm) ∙ ap (λ x. k * x) (sym low_low_is));
      high_low = across loads.high_low k loads.lcm (product tasks) (load_hl tasks) whole (s.high_low ∙ ap (λ l. k * load high_low l tasks) (sym lcm) ∙ ap (λ x. k * x) (sym high_low_is));
      high_high = across loads.high_high k loads.lcm (product tasks) (load_hh tasks) whole (s.high_high ∙ ap (λ l. k * load high_high l tasks) (sym lcm) ∙ ap (λ x. k * x) (sym high_high_is));
    }

-- the loads of the set over the product of its periods are k times the loads over the hyperperiod
pub record IsScaled (k : ℕ) (tasks : List Task) (loads : Loads) : Type 0 where
  pub above : 0 < k
  pub periods : product tasks ≡ k * loads.lcm
  pub low_low : load_ll tasks ≡ k * loads.low_low
  pub high_low : load_hl tasks ≡ k * loads.high_low
  pub high_high : load_hh tasks ≡ k * loads.high_high

back : (x k l p a : ℕ) → 0 < l → p ≡ k * l → x * p ≡ a * l → a ≡ k * x
back x k l p a above whole same =
    let turned : a * l ≡ k * x * l = sym same ∙ ap (λ z. x * z) whole ∙ omega arith in
    eq_of_mul-eq-mul_right l above a (k * x) turned

pub IsScaled-from_BelongTo : (tasks : List Task) (loads : Loads) → BelongTo tasks loads → (k : ℕ) × IsScaled k tasks loads
IsScaled-from_BelongTo tasks loads b =
    let (k, s) = scale_of tasks b.set.each in
    let whole : product tasks ≡ k * loads.lcm = s.periods ∙ ap (λ l. k * l) (sym b.lcm) in (
      k,
      record {
        above = s.above;
        periods = whole;
        low_low = back loads.low_low k loads.lcm (product tasks) (load_ll tasks) b.above whole b.low_low;
        high_low = back loads.high_low k loads.lcm (product tasks) (load_hl tasks) b.above whole b.high_low;
        high_high = back loads.high_high k loads.lcm (product tasks) (load_hh tasks) b.above whole b.high_high;
      },
    )
