-- The loads of tasks with one more task.
use Rattle.std.proofs.Common.{◌≡◌, ℕ, ◌+◌, ◌-◌, ◌*◌, ◌/◌, ◌<◌, ◌≤◌, true, false, inl, inr, refl, sym, ◌∙◌, arith, le-leb, List, [], ◌∷◌, ◌++◌, Option, Some, None, Bool}
use Rattle.std.specs.Prelude.{is_some}
use Prim.Native.Nat.{◌∣◌}
use Rattle.std.specs.List.{AllByRecursion}
use Rattle.std.proofs.lemmas.Bool.{and_left, lt-leb}
use Rattle.std.proofs.Math.Nat.{mul-div_cancel', le_of_mul-le-mul_right}
use Rattle.mc_task.specs.declared.task.Task.{Task}
use Rattle.mc_task.specs.declared.task.Rule.{Rule}
use Rattle.tick_frac.specs.Numbers.{lcm}
use Rattle.tick_frac.proofs.Multiples.{dvd-lcm_first}
use Rattle.mc_model.specs.Loads.{load, lcm_from, hyperperiod, most_lcm, low_low, high_low, high_high}
use Rattle.mc_model.specs.Test.{rule_of, published}
use Rattle.mc_model.proofs.Hyperperiod.{periods-dvd, lcm_from-pos}
use Rattle.mc_model.proofs.Loads.{load_scaled}
use Rattle.mc_model.proofs.RuleCases.{rule_of-cases}
use Rattle.load_sum.specs.declared.loads.Loads.{Loads}
use Rattle.load_sum.specs.Belong.{BelongTo}
use Rattle.load_sum.proofs.BelongTo.{BelongTo-from_sums}
use Rattle.admission.proofs.Sets.{rule_of-published, high_low-most}
use Rattle.part_fit.specs.FirstFit.{fits}
use Rattle.part_fit.specs.ProcessorLoads.{AreLoadsOf, AreSmall, load_over, with_task, IsNext}

lcm_from-append : (m : ℕ) (ts : List Task) (t : Task) → lcm_from m (ts ++ t ∷ []) ≡ lcm (lcm_from m ts) t.period
unfolding lcm_from
lcm_from-append m [] t = refl
lcm_from-append m (u ∷ ts) t = lcm_from-append (lcm m u.period) ts t

load-append : (budget : Task → ℕ) (n : ℕ) (ts : List Task) (t : Task) → load budget n (ts ++ t ∷ []) ≡ load budget n ts + budget t * (n / t.period)
load-append budget n [] t = omega arith
load-append budget n (u ∷ ts) t = omega (arith, load-append budget n ts t)

-- a load over n, taken over a multiple m of n and with the load of one more task, is the load with that task
sum-more : (budget : Task → ℕ) (n m : ℕ) (ts : List Task) (t : Task) (sum : ℕ) → AllByRecursion (λ u. u.period ∣ n) ts → n ∣ m → sum ≡ load budget n ts
    → load_over n m sum (budget t) t.period ≡ load budget m (ts ++ t ∷ [])
sum-more budget n m ts t sum h divides is =
    let whole : m / n * n ≡ m = omega (arith, mul-div_cancel' n divides) in
    let scaled : load budget m ts ≡ m / n * load budget n ts = rw whole at (load_scaled budget (m / n) n ts h) in
    rw (is, load-append budget m ts t, scaled) (omega arith)

with_task-AreLoadsOf : (tasks : List Task) (loads : Loads) (t : Task) → AreLoadsOf tasks loads → AreLoadsOf (tasks ++ t ∷ []) (with_task loads t)
with_task-AreLoadsOf tasks loads t have =
    let more = lcm loads.lcm t.period in
    let divides = dvd-lcm_first loads.lcm t.period in
    let each : AllByRecursion (λ u. u.period ∣ loads.lcm) tasks = rw have.lcm (periods-dvd 1 tasks) in
    record {
      lcm = rw (have.lcm, lcm_from-append 1 tasks t) refl;
      low_low = sum-more low_low loads.lcm more tasks t loads.low_low each divides have.low_low;
      high_low = sum-more high_low loads.lcm more tasks t loads.high_low each divides have.high_low;
      high_high = sum-more high_high loads.lcm more tasks t loads.high_high each divides have.high_high;
    }

-- the loads of a processor with those of one more task are the loads with that task, if they are within range
pub next-BelongTo : {tasks : List Task} {loads more : Loads} {t : Task} → IsNext tasks loads t → more ≡ with_task loads t → more.lcm ≤ most_lcm
    → BelongTo (tasks ++ t ∷ []) more × AreLoadsOf (tasks ++ t ∷ []) more
next-BelongTo {tasks} {loads} {more} {t} next is within =
    let set = next.together in
    let have : AreLoadsOf (tasks ++ t ∷ []) more = rw is (with_task-AreLoadsOf tasks loads t next.have) in
    let above : 0 < more.lcm = omega (arith, have.lcm, lcm_from-pos 1 (tasks ++ t ∷ []) (omega arith) set.each) in
    (BelongTo-from_sums (tasks ++ t ∷ []) more set have.lcm above within have.low_low have.high_low have.high_high, have)

-- the tasks of a processor do not fit with one more task that takes them out of range
pub next-past : {tasks : List Task} {loads : Loads} {t : Task} → IsNext tasks loads t → most_lcm < lcm loads.lcm t.period → fits (tasks ++ t ∷ []) ≡ false
unfolding fits
next-past {tasks} {loads} {t} next past =
    let over : most_lcm < hyperperiod (tasks ++ t ∷ []) = rw (lcm_from-append 1 tasks t, ← next.have.lcm) past in
    and_left _ _ (lt-leb _ _ over)

-- tasks within range fit if the test admits them
pub fits-answer : {tasks : List Task} {loads : Loads} {answer : Option Rule} {b : Bool} → BelongTo tasks loads → answer ≡ published tasks → b ≡ is_some answer
    → fits tasks ≡ b
unfolding fits
fits-answer {tasks} belong is b_is = rw (le-leb (hyperperiod tasks) most_lcm (omega (arith, belong.lcm, belong.within)), b_is, is) refl

-- if the test admits a/n and c/n, neither is above 1
most : (n a b c : ℕ) (o : Option Rule) → rule_of n a b c ≡ o → true ≡ is_some o → (a ≤ n) × (c ≤ n)
most n a b c None h some = absurd (cc some)
most n a b c (Some rule) h some =
    elim (rule_of-cases n a b c rule h) [
      | inl plain ↦ (omega (arith, plain.1), omega (arith, plain.1))
      | inr virtual ↦
          let low = virtual.1.low in
          let scaled : c * (n - a) ≤ n * (n - a) = omega (arith, virtual.1.scaled) in
          (omega (arith, low), le_of_mul-le-mul_right scaled (omega (arith, low)))
    ]

pub admitted-AreSmall : {tasks : List Task} {loads : Loads} {answer : Option Rule} → BelongTo tasks loads → answer ≡ published tasks → true ≡ is_some answer
    → AreSmall loads
admitted-AreSmall {tasks} {loads} {answer} belong is some =
    let within = most loads.lcm loads.low_low loads.high_low loads.high_high answer (rule_of-published tasks loads belong ∙ sym is) some in
    record {
      above = belong.above;
      lcm = belong.within;
      low_low = omega (arith, within.0, belong.within);
      high_low = omega (arith, within.1, high_low-most tasks loads belong, belong.within);
      high_high = omega (arith, within.1, belong.within);
    }
