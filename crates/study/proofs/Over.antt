-- The test of a set by its loads over a multiple of all its periods.
use Rattle.std.proofs.Common.{◌≡◌, ℕ, ◌*◌, ◌/◌, ◌<◌, ◌≤◌, refl, sym, ◌∙◌, ap, arith, false, nat_le, List, [], ◌∷◌, Some, None}
use Prim.Native.Nat.{◌∣◌}
use Rattle.std.specs.Prelude.{is_some}
use Rattle.std.specs.List.{AllByRecursion}
use Rattle.std.proofs.lemmas.Nat.Gcd.{le_of_dvd}
use Rattle.std.proofs.lemmas.Nat.{le-div}
use Rattle.std.proofs.Math.Nat.{mul-div_cancel'}
use Rattle.mc_task.specs.declared.task.Task.{Task}
use Rattle.mc_task.specs.TaskSet.{IsTask, AreTasks}
use Rattle.mc_model.specs.Loads.{load, hyperperiod, low_low, high_low, high_high}
use Rattle.mc_model.specs.Test.{rule_of, published}
use Rattle.mc_model.proofs.Hyperperiod.{hyperperiod-IsLeastCommon, periods-dvd}
use Rattle.mc_model.proofs.Loads.{load_scaled, scale_of, high-order}
use Rattle.mc_model.proofs.Tests.{rule-scaled}
use Rattle.study.specs.Stretch.{at_percent, is_admitted_at}
use Rattle.study.specs.Loads.{budget_at, AdmitsUpTo}
use Rattle.study.proofs.AtPercent.{at_percent-AreTasks, load-at}

scaled_rule : (k l p x y z a b c : ℕ) → 0 < k → p ≡ k * l → a ≡ k * x → b ≡ k * y → c ≡ k * z → rule_of p a b c ≡ rule_of l x y z
scaled_rule k l p x y z a b c above whole low high most = rw (whole, low, high, most) (rule-scaled k l x y z above)

-- the test gives the rule of the loads over n
test-over : (n : ℕ) (ts : List Task) → 0 < n → AllByRecursion IsTask ts → AllByRecursion (λ t. t.period ∣ n) ts
    → rule_of n (load low_low n ts) (load high_low n ts) (load high_high n ts) ≡ published ts
unfolding published
test-over n ts some each divides =
    let l : ℕ = hyperperiod ts in
    let (k, s) = scale_of ts each in
    let whole : l ∣ n = (hyperperiod-IsLeastCommon ts).least n divides in
    let m : ℕ = n / l in
    let n_is : n ≡ m * l = sym (mul-div_cancel' l whole) ∙ omega arith in
    let within : l ≤ n = le_of_dvd some whole in
    let above : 0 < m = le-div 1 n l s.lcm_above (omega arith) in
    scaled_rule m l n (load low_low l ts) (load high_low l ts) (load high_high l ts) (load low_low n ts) (load high_low n ts) (load high_high n ts) above n_is
    (ap (λ z. load low_low z ts) n_is ∙ load_scaled low_low m l ts (periods-dvd 1 ts))
    (ap (λ z. load high_low z ts) n_is ∙ load_scaled high_low m l ts (periods-dvd 1 ts))
    (ap (λ z. load high_high z ts) n_is ∙ load_scaled high_high m l ts (periods-dvd 1 ts))
    ∙ sym (scaled_rule k l _ (load low_low l ts) (load high_low l ts) (load high_high l ts) _ _ _ s.above s.periods s.low_low s.high_low s.high_high)

at-divides : (n s : ℕ) (ts : List Task) → AllByRecursion (λ t. t.period ∣ n) ts → AllByRecursion (λ t. t.period ∣ n) (at_percent ts s)
at-divides n s [] h = tt
at-divides n s (t ∷ ts) h = (h.0, at-divides n s ts h.1)

-- at s percent the test gives the rule of the loads over n
test-at : (n s : ℕ) (set : List Task) → 0 < n → AreTasks set → AllByRecursion (λ t. t.period ∣ n) set
    → is_some (rule_of n (load low_low n set) (load high_low n set) (load (budget_at s) n set)) ≡ is_admitted_at set s
test-at n s set some is divides =
    let own : AreTasks (at_percent set s) = at_percent-AreTasks set s is in
    let a : load low_low n (at_percent set s) ≡ load low_low n set = load-at low_low low_low s n (λ t. refl) set in
    let b : load high_low n (at_percent set s) ≡ load high_low n set = load-at high_low high_low s n (λ t. refl) set in
    let c : load high_high n (at_percent set s) ≡ load (budget_at s) n set = load-at high_high (budget_at s) s n (λ t. refl) set in
    rw (← a, ← b, ← c) (ap is_some (test-over n (at_percent set s) some own.each (at-divides n s set divides)))

order-at : (n s : ℕ) (set : List Task) → AreTasks set → load high_low n set ≤ load (budget_at s) n set
order-at n s set is =
    let own : AreTasks (at_percent set s) = at_percent-AreTasks set s is in
    omega (arith, load-at high_low high_low s n (λ t. refl) set, load-at high_high (budget_at s) s n (λ t. refl) set, high-order n (at_percent set s) own.each)

-- if no numerator is admitted, no percentage is
pub over-none : (n s : ℕ) (set : List Task) → 0 < n → AreTasks set → AllByRecursion (λ t. t.period ∣ n) set
    → AdmitsUpTo n (load low_low n set) (load high_low n set) None → is_admitted_at set s ≡ false
over-none n s set some is divides none = sym (test-at n s set some is divides) ∙ none (load (budget_at s) n set) (order-at n s set is)

-- if numerators are admitted up to one, exactly the percentages with such a numerator are admitted
pub over-some : (n s most : ℕ) (set : List Task) → 0 < n → AreTasks set → AllByRecursion (λ t. t.period ∣ n) set
    → AdmitsUpTo n (load low_low n set) (load high_low n set) (Some most) → is_admitted_at set s ≡ nat_le (load (budget_at s) n set) most
over-some n s most set some is divides admits = sym (test-at n s set some is divides) ∙ admits (load (budget_at s) n set) (order-at n s set is)
