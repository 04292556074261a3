-- The law of low mode: no pending job has a key of at most the ticks. Under plain EDF this is the whole law.
use Rattle.std.proofs.Common.{◌≡◌, ℕ, ◌+◌, ◌-◌, ◌*◌, ◌/◌, ◌≤◌, Bool, true, false, List, [], ◌∷◌, Option, Some, cond, refl, ap, arith, le_refl, le_trans, mul-le-mul_left, mul-le-mul_right, le_of_mul-le-mul_right}
use Rattle.std.specs.List.{AllByRecursion}
use Rattle.mc_task.specs.declared.task.Rule.{Rule}
use Rattle.mc_task.specs.declared.task.Rule.TheVariants.{Plain, Virtual}
use Rattle.mc_task.specs.declared.task.Task.{Task}
use Rattle.mc_task.specs.TaskSet.{task_at, IsTask, InOrder}
use Rattle.mc_model.specs.declared.row.Row.{Row}
use Rattle.mc_task.specs.Kinds.{is_high}
use Rattle.mc_model.specs.TaskNumbers.{period_in, low_in, own_in, is_high_in}
use Rattle.mc_model.specs.Holds.{Holds}
use Rattle.mc_model.specs.Loads.{product, load, low_low, high_low, high_high, load_ll, load_hl, load_hh, by_level}
use Rattle.mc_model.specs.Rows.{ticks}
use Rattle.mc_model.specs.Legal.{none_below}
use Rattle.mc_model.specs.Mode.{high_mode}
use Rattle.mc_model.specs.Key.{scale, low_offset}
use Rattle.mc_model.proofs.Fold.{pending, Legal}
use Rattle.mc_model.proofs.Live.{live_ok}
use Rattle.mc_model.proofs.NumberedSums.{sum_numbered}
use Rattle.demand_law.proofs.Sums.{sum_bound, divides, load-linear}
use Rattle.demand_law.proofs.LowDemand.{low_demand, owing, debt}
use Rattle.mc_model.proofs.Tasks.{at_index}
use Rattle.mc_model.proofs.Hyperperiod.{product-pos}
use Rattle.std.proofs.Math.Nat.{mul-pos}
use Rattle.mc_task.specs.declared.task.Level.{Level}
use Rattle.mc_task.specs.declared.task.Level.TheVariants.{Low, High}

-- a task's own budget is its part in the load of low tasks or in that of high tasks
own_split : (l : Level) (low high : ℕ) → InOrder l low high → high ≡ by_level l low 0 + by_level l 0 high
own_split Low low high h = omega (arith, h)
own_split High low high h = omega arith

-- the load of all tasks by their own budgets
own_load : (p : ℕ) (ts : List Task) → AllByRecursion IsTask ts → load (λ t. t.high) p ts ≡ load low_low p ts + load high_high p ts
own_load p [] s = refl
own_load p (t ∷ ts) s =
    let ih : load (λ t. t.high) p ts ≡ load low_low p ts + load high_high p ts = own_load p ts s.1 in
    let one : t.high ≡ low_low t + high_high t = own_split t.level t.low t.high s.0.budgets in
    let two : t.high * (p / t.period) ≡ (low_low t + high_high t) * (p / t.period) = ap (λ (n : ℕ). n * (p / t.period)) one in
    omega (arith, ih, two)

-- under plain EDF the key of a job is at most its deadline
pub plain_slack : (t : Option Task) → low_offset Plain t ≤ scale Plain * period_in t
plain_slack t = omega arith

-- under plain EDF the tasks asked for at most the time that there was
plain_sum : (set : List Task) (d : ℕ → ℕ) (l : ℕ) → AllByRecursion IsTask set → Holds set Plain → ((k : ℕ) → d k * period_in (task_at set k) ≤ own_in (task_at set k) * l) → sum_numbered set d 1 ≤ l
plain_sum set d l s holds each =
    let p = product set in
    let b : sum_numbered set d 1 * 1 * p ≤ l * load (λ t. t.high) p set =
    sum_bound set d (λ t. t.high) 1 l p 1 (divides set s) (λ k t e. at_index set (λ o. d (1 + k) * 1 * period_in o ≤ own_in o * l) k t e (let q = each (1 + k) in omega (arith, q))) in
    let o : load (λ t. t.high) p set ≡ load_ll set + load_hh set = own_load p set s in
    let c : l * load (λ t. t.high) p set ≤ l * p = mul-le-mul_left l (omega (arith, o, holds)) in
    let pos : 1 ≤ p = product-pos set s in
    le_of_mul-le-mul_right {k = p} (omega (arith, b, c)) pos

-- the law of low mode under plain EDF
pub plain_low : (set : List Task) (h : List Row) → AllByRecursion IsTask set → Holds set Plain → Legal set Plain h → high_mode Plain h ≡ false → none_below set Plain false (1 * ticks h + 1) (pending set h) ≡ true
plain_low set h s holds l m = go (none_below set Plain false (1 * ticks h + 1) (pending set h)) refl
  where
    go : (b : Bool) → none_below set Plain false (1 * ticks h + 1) (pending set h) ≡ b → b ≡ true
    go true e = refl
    go false e =
        let c = low_demand set Plain (1 * ticks h) plain_slack s h l m in
        let o : 1 ≤ debt set Plain (1 * ticks h) h = owing set Plain (1 * ticks h) h m (pending set h) (live_ok set Plain h s l) e in
        let b = c.balance in
        let early = c.early in
        let sum : sum_numbered set c.demand 1 ≤ 1 * ticks h - 1 * c.start = plain_sum set c.demand (1 * ticks h - 1 * c.start) s holds (λ k. (c.each k).reach) in
        absurd (omega (arith, o, b, early, sum))

-- a virtual deadline is not after the deadline
pub virtual_slack : (p q : ℕ) → p ≤ q → (t : Option Task) → low_offset (Virtual p q) t ≤ scale (Virtual p q) * period_in t
virtual_slack p q h t =
    let m : p * period_in t ≤ q * period_in t = mul-le-mul_right (period_in t) h in
    elim (is_high_in t) as (λ b. cond b (p * period_in t) (q * period_in t) ≤ q * period_in t) [ true ↦ m | false ↦ le_refl _ ]

-- what one task of this level asked for, with both parts of the scale
share : (l : Level) (p q d w low period : ℕ) → d * cond (is_high l) (p * period) (q * period) ≤ low * w → d * (p * q) * period ≤ (p * by_level l low 0 + q * by_level l 0 low) * w
share Low p q d w low period h = let x : p * (d * (q * period)) ≤ p * (low * w) = mul-le-mul_left p h in omega (arith, x)
share High p q d w low period h = let x : q * (d * (p * period)) ≤ q * (low * w) = mul-le-mul_left q h in omega (arith, x)

-- what one task asked for, with both parts of the scale
virtual_one : (p q d l : ℕ) (t : Task) → d * low_offset (Virtual p q) (Some t) ≤ t.low * l → d * (p * q) * t.period ≤ (p * low_low t + q * high_low t) * l
virtual_one p q d l t h = share t.level p q d l t.low t.period h

-- under EDF-VD in low mode the tasks asked for at most the time that there was
virtual_sum : (set : List Task) (p q : ℕ) (d : ℕ → ℕ) (l : ℕ) → AllByRecursion IsTask set → Holds set (Virtual p q) → ((k : ℕ) → d k * low_offset (Virtual p q) (task_at set k) ≤ low_in (task_at set k) * l) → sum_numbered set d 1 * q ≤ l
virtual_sum set p q d l s holds each =
    let n = product set in
    let f : Task → ℕ = λ t. p * low_low t + q * high_low t in
    let b : sum_numbered set d 1 * (p * q) * n ≤ l * load f n set =
    sum_bound set d f (p * q) l n 1 (divides set s) (λ k t e. virtual_one p q (d (1 + k)) l t (at_index set (λ o. d (1 + k) * low_offset (Virtual p q) o ≤ low_in o * l) k t e (each (1 + k)))) in
    let o : load f n set ≡ p * load_ll set + q * load_hl set = load-linear p q low_low high_low n set in
    let c : l * load f n set ≤ l * (p * n) = mul-le-mul_left l (omega (arith, o, holds.2)) in
    let pos : 1 ≤ p * n = mul-pos holds.0 (product-pos set s) in
    le_of_mul-le-mul_right {k = p * n} (omega (arith, b, c)) pos

-- if the tasks asked for at most the time that there was, nothing is owed
last_step : (q t n s w : ℕ) → 1 ≤ q → t ≤ n → n + w ≤ t + s → s * q ≤ q * n - q * t → w ≡ 0
last_step q t n s w h e b c =
    let x : q * (n + w) ≤ q * (t + s) = mul-le-mul_left q b in
    let y : q * t ≤ q * n = mul-le-mul_left q e in
    let z : q * w ≤ 0 = omega (arith, x, y, c) in
    zero_left q w h z
  where
    zero_left : (a b : ℕ) → 1 ≤ a → a * b ≤ 0 → b ≡ 0
    zero_left a b h k = grind arith

-- the law of low mode under EDF-VD
pub virtual_low : (set : List Task) (p q : ℕ) (h : List Row) → AllByRecursion IsTask set → Holds set (Virtual p q) → Legal set (Virtual p q) h → high_mode (Virtual p q) h ≡ false → none_below set (Virtual p q) false (q * ticks h + 1) (pending set h) ≡ true
virtual_low set p q h s holds l m = go (none_below set (Virtual p q) false (q * ticks h + 1) (pending set h)) refl
  where
    go : (b : Bool) → none_below set (Virtual p q) false (q * ticks h + 1) (pending set h) ≡ b → b ≡ true
    go true e = refl
    go false e =
        let c = low_demand set (Virtual p q) (q * ticks h) (virtual_slack p q holds.1) s h l m in
        let o : 1 ≤ debt set (Virtual p q) (q * ticks h) h = owing set (Virtual p q) (q * ticks h) h m (pending set h) (live_ok set (Virtual p q) h s l) e in
        let sum : sum_numbered set c.demand 1 * q ≤ q * ticks h - q * c.start = virtual_sum set p q c.demand (q * ticks h - q * c.start) s holds (λ k. (c.each k).reach) in
        let q_pos : 1 ≤ q = le_trans holds.0 holds.1 in
        let z = last_step q c.start (ticks h) (sum_numbered set c.demand 1) (debt set (Virtual p q) (q * ticks h) h) q_pos c.early c.balance sum in
        absurd (omega (arith, o, z))

-- the law of low mode for both rules
pub low_law : (set : List Task) (rule : Rule) (h : List Row) → AllByRecursion IsTask set → Holds set rule → Legal set rule h → high_mode rule h ≡ false → none_below set rule false (scale rule * ticks h + 1) (pending set h) ≡ true
low_law set Plain h s holds l m = plain_low set h s holds l m
low_law set (Virtual p q) h s holds l m = virtual_low set p q h s holds l m
