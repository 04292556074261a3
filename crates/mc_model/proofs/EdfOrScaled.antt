-- The scaled test admits what plain EDF admits, except low tasks alone whose load is exactly 1.
use Rattle.std.proofs.Common.{◌≡◌, ℕ, ◌+◌, ◌-◌, ◌*◌, ◌/◌, ◌<◌, ◌≤◌, inl, inr, refl, arith, List, [], ◌∷◌}
use Rattle.std.specs.List.{AllByRecursion}
use Rattle.std.proofs.lemmas.Bool.Decides.{leb_tells}
use Rattle.std.proofs.lemmas.Nat.{le-div}
use Rattle.std.proofs.Math.Nat.{mul-pos, mul-le-mul_left, mul-le-mul_right}
use Rattle.mc_task.specs.declared.task.Task.{Task}
use Rattle.mc_task.specs.declared.task.Level.{Level}
use Rattle.mc_task.specs.declared.task.Level.TheVariants.{Low, High}
use Rattle.mc_task.specs.TaskSet.{IsTask, InOrder}
use Rattle.mc_model.specs.Loads.{product, load, load_ll, load_hl, load_hh, high_high, by_level}
use Rattle.mc_model.specs.Holds.{PassesScaledOver, EdfOrScaled}
use Rattle.mc_model.proofs.Hyperperiod.{product-pos}
use Rattle.mc_model.proofs.Loads.{high-order}

-- with b ≤ c ≤ d the scaled load fits in n = a + d
scaled-load : (a b c d : ℕ) → b ≤ c → c ≤ d → a * b + c * d ≤ (a + d) * d
scaled-load a b c d order rest =
    let lows : a * b ≤ a * d = mul-le-mul_left a (omega arith) in
    let highs : c * d ≤ d * d = mul-le-mul_right d rest in
    omega arith

-- if low tasks leave time, what plain EDF admits passes the scaled test
plain-scaled : (n a b c : ℕ) → b ≤ c → a + c ≤ n → a < n → PassesScaledOver n a b c
plain-scaled n a b c order fits low =
    let whole : a + (n - a) ≡ n = omega arith in
    let scaled : a * b + c * (n - a) ≤ (a + (n - a)) * (n - a) = scaled-load a b c (n - a) order (omega arith) in
    (low, rw whole at scaled)

-- no period is above a number that is at least the product of all periods
periods-within : (m : ℕ) (ts : List Task) → AllByRecursion IsTask ts → product ts ≤ m → AllByRecursion (λ t. t.period ≤ m) ts
periods-within m [] each most = tt
periods-within m (t ∷ ts) each most =
    let here : t.period * 1 ≤ t.period * product ts = mul-le-mul_left t.period (product-pos ts each.1) in
    let others : 1 * product ts ≤ t.period * product ts = mul-le-mul_right (product ts) each.0.period.0 in
    (omega arith, periods-within m ts each.1 (omega arith))

-- a task whose high budget asks for no time is low
low-one : (l : Level) (low high share : ℕ) → 1 ≤ low → InOrder l low high → 1 ≤ share → by_level l 0 high * share ≡ 0 → l ≡ Low
low-one Low low high share some order whole none = refl
low-one High low high share some order whole none =
    let asks : 0 < high * share = mul-pos (omega arith) whole in
    absurd (omega arith)

-- tasks of which none asks for time by a high budget are low
low-each : (n : ℕ) (ts : List Task) → AllByRecursion IsTask ts → AllByRecursion (λ t. t.period ≤ n) ts → load high_high n ts ≡ 0 → AllByRecursion (λ t. t.level ≡ Low) ts
low-each n [] each within none = tt
low-each n (t ∷ ts) each within none =
    let share : 1 ≤ n / t.period = le-div 1 n t.period (each.0.period.0) (omega arith) in
    (low-one t.level t.low t.high (n / t.period) each.0.low.0 each.0.budgets share (omega arith), low-each n ts each.1 within.1 (omega arith))

-- law: plain EDF admits no tasks that the scaled test refuses, except low ones alone whose load is exactly 1
pub edf_or_scaled : EdfOrScaled
edf_or_scaled tasks are fits =
    let order : load_hl tasks ≤ load_hh tasks = high-order (product tasks) tasks are.each in
    elim (leb_tells (product tasks) (load_ll tasks)) [
      | inl all ↦ inr (record {
        low = low-each (product tasks) tasks are.each (periods-within (product tasks) tasks are.each (omega arith)) (omega (arith, all.1, fits));
        load = omega (arith, all.1, fits);
      })
      | inr some ↦ inl (plain-scaled (product tasks) (load_ll tasks) (load_hl tasks) (load_hh tasks) order fits (some.1))
    ]
