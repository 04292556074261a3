-- The hyperperiod, and the task that takes it out of range.
use Rattle.std.proofs.Common.{◌≡◌, ℕ, suc, ◌+◌, ◌*◌, ◌<◌, ◌≤◌, inl, inr, subst, arith, List, [], ◌∷◌, Some}
use Rattle.std.proofs.lemmas.Bool.Decides.{leb_tells}
use Prim.Native.Nat.{◌∣◌}
use Rattle.std.specs.List.{AllByRecursion}
use Rattle.std.proofs.lemmas.Nat.Gcd.{dvd_refl, dvd_trans, le_of_dvd}
use Rattle.std.proofs.Math.Nat.{one-dvd, mul_assoc, dvd-mul_right, mul-dvd-mul_right, mul-lt-mul_of_pos_left}
use Rattle.mc_task.specs.declared.task.Task.{Task}
use Rattle.mc_task.specs.TaskSet.{IsTask}
use Rattle.tick_frac.specs.Numbers.{lcm}
use Rattle.tick_frac.proofs.Multiples.{dvd-lcm_first, dvd-lcm_second, lcm-dvd, lcm-pos, IsLcm-lcm}
use Rattle.mc_model.specs.Loads.{product, lcm_from, hyperperiod, IsLeastCommon, most_lcm, range_fault_from}

pub dvd-lcm_from : (m : ℕ) (ts : List Task) → m ∣ lcm_from m ts
unfolding lcm_from
dvd-lcm_from m [] = dvd_refl m
dvd-lcm_from m (t ∷ ts) = dvd_trans m (dvd-lcm_first m t.period) (dvd-lcm_from (lcm m t.period) ts)

pub periods-dvd : (m : ℕ) (ts : List Task) → AllByRecursion (λ t. t.period ∣ lcm_from m ts) ts
unfolding lcm_from
periods-dvd m [] = tt
periods-dvd m (t ∷ ts) = (dvd_trans t.period (dvd-lcm_second m t.period) (dvd-lcm_from (lcm m t.period) ts), periods-dvd (lcm m t.period) ts)

pub lcm_from-dvd : (m : ℕ) (ts : List Task) → lcm_from m ts ∣ m * product ts
unfolding lcm_from
lcm_from-dvd m [] = dvd-mul_right m 1
lcm_from-dvd m (t ∷ ts) =
    dvd_trans _ (lcm_from-dvd (lcm m t.period) ts)
    (subst (λ z. lcm m t.period * product ts ∣ z) (mul_assoc m t.period (product ts)) (mul-dvd-mul_right (lcm m t.period) (lcm-dvd m t.period) (product ts)))

pub product-pos : (ts : List Task) → AllByRecursion IsTask ts → 0 < product ts
product-pos [] h = omega arith
product-pos (t ∷ ts) h =
    let more : t.period * 0 < t.period * product ts = mul-lt-mul_of_pos_left (product-pos ts (h.1)) (h.0.period.0) in
    omega arith

lcm_from-least : (m k : ℕ) (ts : List Task) → m ∣ k → AllByRecursion (λ t. t.period ∣ k) ts → lcm_from m ts ∣ k
unfolding lcm_from
lcm_from-least m k [] first others = first
lcm_from-least m k (t ∷ ts) first others = lcm_from-least (lcm m t.period) k ts ((IsLcm-lcm m t.period).least k first (others.0)) (others.1)

pub hyperperiod-IsLeastCommon : (ts : List Task) → IsLeastCommon ts (hyperperiod ts)
hyperperiod-IsLeastCommon ts = record { common = periods-dvd 1 ts; least = λ k h. lcm_from-least 1 k ts (one-dvd k) h }

pub lcm_from-pos : (m : ℕ) (ts : List Task) → 0 < m → AllByRecursion IsTask ts → 0 < lcm_from m ts
unfolding lcm_from
lcm_from-pos m [] above h = above
lcm_from-pos m (t ∷ ts) above h = lcm_from-pos (lcm m t.period) ts (lcm-pos m t.period above (h.0.period.0)) (h.1)

-- if one task takes the least common multiple out of range, the hyperperiod is out of range
pub range_fault-past : (k m n : ℕ) (ts : List Task) → 0 < m → AllByRecursion IsTask ts → range_fault_from k m ts ≡ Some n → most_lcm < lcm_from m ts
unfolding lcm_from range_fault_from
range_fault-past k m n [] above h e = absurd (cc)
range_fault-past k m n (t ∷ ts) above h e =
    let some : 0 < lcm m t.period = lcm-pos m t.period above (h.0.period.0) in
    let grows : lcm m t.period ≤ lcm_from (lcm m t.period) ts = le_of_dvd (lcm_from-pos (lcm m t.period) ts some (h.1)) (dvd-lcm_from (lcm m t.period) ts) in
    elim (leb_tells (suc most_lcm) (lcm m t.period)) [
      | inl t' ↦ omega arith
      | inr t' ↦ range_fault-past (k + 1) (lcm m t.period) n ts some (h.1) (rw t'.0 at e)
    ]
