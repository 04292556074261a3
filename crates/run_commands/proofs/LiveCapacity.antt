-- A live run of n ticks needs a small capacity: by a rule that holds, U_LL and U_HH are at most 1, so the
-- tasks together have at most two releases a tick, and one more release each.
use Rattle.std.proofs.Common.{◌≡◌, ℕ, ◌+◌, ◌*◌, ◌/◌, ◌<◌, ◌≤◌, List, [], ◌∷◌, length, ap, sym, arith}
use Rattle.std.proofs.Math.Nat.{mul-le-mul_left, le_of_mul-le-mul_left}
use Rattle.std.proofs.lemmas.Nat.{div-add-mod'}
use Rattle.std.specs.List.{AllByRecursion}
use Rattle.mc_task.specs.declared.task.Task.{Task}
use Rattle.mc_task.specs.declared.task.Level.{Level}
use Rattle.mc_task.specs.declared.task.Level.TheVariants.{Low, High}
use Rattle.mc_task.specs.declared.task.Rule.{Rule}
use Rattle.mc_task.specs.declared.task.Rule.TheVariants.{Plain, Virtual}
use Rattle.mc_task.specs.TaskSet.{IsTask, AreTasks}
use Rattle.mc_model.specs.declared.row.Row.{Row}
use Rattle.mc_model.specs.Rows.{ticks}
use Rattle.mc_model.specs.Legal.{Legal}
use Rattle.mc_model.specs.Sums.{total}
use Rattle.mc_model.specs.Loads.{by_level, low_low, high_high, product, load, load_ll, load_hh}
use Rattle.mc_model.specs.Holds.{HoldsOver, Holds}
use Rattle.mc_model.proofs.Hyperperiod.{product-pos}
use Rattle.demand_law.proofs.Sums.{Divides, divides}
use Rattle.task_threads.specs.LivePasses.{live_capacity}
use Rattle.task_threads.proofs.LiveRoom.{rows-le}

-- how many whole periods all tasks together have in n ticks
abbrev periods_in : ℕ → List Task → ℕ
periods_in n ts = total (λ t. n / t.period) ts

-- by its level a task counts with its low or its high budget, which is at least 1
some_budget : (level : Level) (low high : ℕ) → 1 ≤ low → 1 ≤ high → 1 ≤ by_level level low 0 + by_level level 0 high
some_budget Low low high l h = omega (arith, l)
some_budget High low high l h = omega (arith, h)

-- q is at most a * q and b * q together, if a or b is at least 1
one_load : (a b q : ℕ) → 1 ≤ a + b → q ≤ a * q + b * q
one_load a b q some = let m : q * 1 ≤ q * (a + b) = mul-le-mul_left q some in omega (arith, m)

-- the loads of the low tasks and of the high tasks are together at least the number of whole periods
periods_load : (n : ℕ) (ts : List Task) → AllByRecursion IsTask ts → periods_in n ts ≤ load low_low n ts + load high_high n ts
periods_load n [] s = omega arith
periods_load n (t ∷ ts) s =
    let here = one_load (low_low t) (high_high t) (n / t.period) (some_budget t.level t.low t.high s.0.low.0 s.0.high.0) in
    let rest = periods_load n ts s.1 in
    omega (arith, here, rest)

-- U_LL = a/n and U_HH = c/n are at most 1 where a rule holds
loads_hold : (n a b c : ℕ) (rule : Rule) → HoldsOver n a b c rule → (a ≤ n) × (c ≤ n)
loads_hold n a b c Plain h = (omega (arith, h), omega (arith, h))
loads_hold n a b c (Virtual p q) h =
    let low : p * a ≤ p * n = (let l = h.2 in omega (arith, l)) in
    let high : q * c ≤ q * n = (let l = h.3 in omega (arith, l)) in
    let p_some : 0 < p = (let l = h.0 in omega (arith, l)) in
    let q_some : 0 < q = (let l = h.0 in let m = h.1 in omega (arith, l, m)) in
    (le_of_mul-le-mul_left low p_some, le_of_mul-le-mul_left high q_some)

-- in n ticks there are n/p times as many whole periods as in p, at most, where the period divides p
one_share : (n p t w : ℕ) → w * t ≡ p → n / t * p ≤ n * w
one_share n p t w e =
    let whole = div-add-mod' n t in
    let less : n / t * t ≤ n = omega (arith, whole) in
    let m : w * (n / t * t) ≤ w * n = mul-le-mul_left w less in
    let s : n / t * p ≡ n / t * (w * t) = ap (λ (x : ℕ). n / t * x) (sym e) in
    omega (arith, m, s)

shares : (n p : ℕ) (ts : List Task) → Divides p ts → periods_in n ts * p ≤ n * periods_in p ts
shares n p [] d = omega arith
shares n p (t ∷ ts) d =
    let here = one_share n p t.period (p / t.period) d.0 in
    let rest = shares n p ts d.1 in
    omega (arith, here, rest)

-- all tasks together have at most two whole periods a tick, if a rule holds for the set
few_periods : (set : List Task) (rule : Rule) (n : ℕ) → AllByRecursion IsTask set → Holds set rule → periods_in n set ≤ 2 * n
few_periods set rule n tasks holds =
    let loads = loads_hold (product set) (load_ll set) _ (load_hh set) rule holds in
    let all = periods_load (product set) set tasks in
    let two : periods_in (product set) set ≤ 2 * product set = omega (arith, loads.0, loads.1, all) in
    let scaled : n * periods_in (product set) set ≤ n * (2 * product set) = mul-le-mul_left n two in
    let share = shares n (product set) set (divides set tasks) in
    let more : product set * periods_in n set ≤ product set * (2 * n) = omega (arith, share, scaled) in
    le_of_mul-le-mul_left more (product-pos set tasks)

-- one release more for each task adds the number of tasks
one_more : (n : ℕ) (ts : List Task) → total (λ t. n / t.period + 1) ts ≡ periods_in n ts + length ts
one_more n [] = omega arith
one_more n (t ∷ ts) = let rest = one_more n ts in omega (arith, rest)

-- a live run of n ticks needs capacity for at most three rows a tick, and one more for each task
few_capacity : (set : List Task) (rule : Rule) (n : ℕ) → AreTasks set → Holds set rule → live_capacity set n ≤ 3 * n + 128
few_capacity set rule n is holds =
    let periods = few_periods set rule n is.each holds in
    omega (arith, is.few, periods, one_more n set)

-- a legal trace under a rule that holds has at most three rows a tick, and 128 beside
pub few_rows : (set : List Task) (rule : Rule) (h : List Row) → AreTasks set → Holds set rule → Legal set rule h → length h ≤ 3 * ticks h + 128
few_rows set rule h is holds legal =
    let rows = rows-le set rule h (ticks h) is.each legal (omega arith) in
    omega (arith, rows, few_capacity set rule (ticks h) is holds)
