-- The loads over the product of the periods, and over the hyperperiod, say the same.
use Rattle.std.proofs.Common.{◌≡◌, ℕ, ◌+◌, ◌*◌, ◌/◌, ◌<◌, ◌≤◌, sym, ◌∙◌, ap, subst, arith, List, [], ◌∷◌}
use Prim.Native.Nat.{◌∣◌}
use Rattle.std.specs.List.{AllByRecursion}
use Rattle.std.proofs.lemmas.Nat.Gcd.{le_of_dvd}
use Rattle.std.proofs.lemmas.Nat.{le-div}
use Rattle.std.proofs.Math.Nat.{mul-div_cancel', mul-div_assoc, pos_of_dvd_of_pos, mul-le-mul_right}
use Rattle.mc_task.specs.declared.task.Task.{Task}
use Rattle.mc_task.specs.declared.task.Level.{Level}
use Rattle.mc_task.specs.declared.task.Level.TheVariants.{Low, High}
use Rattle.mc_task.specs.TaskSet.{IsTask, InOrder}
use Rattle.mc_model.specs.Loads.{product, load, hyperperiod, low_low, high_low, high_high, load_ll, load_hl, load_hh, by_level}
use Rattle.mc_model.proofs.Hyperperiod.{product-pos, lcm_from-dvd, periods-dvd}

-- a load over k times n is k times the load over n, where each period divides n
pub load_scaled : (budget : Task → ℕ) (k n : ℕ) (ts : List Task) → AllByRecursion (λ t. t.period ∣ n) ts → load budget (k * n) ts ≡ k * load budget n ts
load_scaled budget k n [] h = omega arith
load_scaled budget k n (t ∷ ts) h =
    let one : k * n / t.period ≡ k * (n / t.period) = mul-div_assoc t.period k (h.0) in
    let others : load budget (k * n) ts ≡ k * load budget n ts = load_scaled budget k n ts (h.1) in
    ap (λ z. budget t * z + load budget (k * n) ts) one ∙ ap (λ z. budget t * (k * (n / t.period)) + z) others ∙ omega arith

-- the loads over the product are k times those over the hyperperiod
pub record Scales (k : ℕ) (ts : List Task) : Type 0 where
  pub above : 0 < k
  pub lcm_above : 0 < hyperperiod ts
  pub periods : product ts ≡ k * hyperperiod ts
  pub low_low : load_ll ts ≡ k * load low_low (hyperperiod ts) ts
  pub high_low : load_hl ts ≡ k * load high_low (hyperperiod ts) ts
  pub high_high : load_hh ts ≡ k * load high_high (hyperperiod ts) ts

pub scale_of : (ts : List Task) → AllByRecursion IsTask ts → (k : ℕ) × Scales k ts
scale_of ts h =
    let l : ℕ = hyperperiod ts in
    let p : ℕ = product ts in
    let divides : l ∣ p = subst (λ z. l ∣ z) (omega arith) (lcm_from-dvd 1 ts) in
    let k : ℕ = p / l in
    let whole : p ≡ k * l = sym (mul-div_cancel' l divides) ∙ omega arith in
    let some : 0 < p = product-pos ts h in
    let lower : 0 < l = pos_of_dvd_of_pos divides some in
    let within : l ≤ p = le_of_dvd some divides in
    let above : 0 < k = le-div 1 p l lower (omega arith) in (
      k,
      record {
        above = above;
        lcm_above = lower;
        periods = whole;
        low_low = ap (λ z. load low_low z ts) whole ∙ load_scaled low_low k l ts (periods-dvd 1 ts);
        high_low = ap (λ z. load high_low z ts) whole ∙ load_scaled high_low k l ts (periods-dvd 1 ts);
        high_high = ap (λ z. load high_high z ts) whole ∙ load_scaled high_high k l ts (periods-dvd 1 ts);
      },
    )

level_order : (l : Level) (low high : ℕ) → InOrder l low high → by_level l 0 low ≤ by_level l 0 high
level_order Low low high h = omega arith
level_order High low high h = h

-- the low budgets of high tasks ask for no more than their high ones
pub high-order : (n : ℕ) (ts : List Task) → AllByRecursion IsTask ts → load high_low n ts ≤ load high_high n ts
high-order n [] h = omega arith
high-order n (t ∷ ts) h =
    let here : by_level t.level 0 t.low * (n / t.period) ≤ by_level t.level 0 t.high * (n / t.period) = mul-le-mul_right (n / t.period) (level_order t.level t.low t.high (h.0.budgets)) in
    let others : load high_low n ts ≤ load high_high n ts = high-order n ts (h.1) in
    omega arith
