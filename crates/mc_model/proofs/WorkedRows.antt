-- The definitions of sets, computed at worked examples: loads, range, rule and text.
use Rattle.std.proofs.Common.{◌≡◌, ℕ, [], ◌∷◌, Some, None, codes, refl}
use Rattle.std.specs.Fmt.{digits}
use Rattle.tick_frac.specs.Numbers.{gcd, gcd_steps, lcm}
use Rattle.tick_frac.specs.Fraction.{lowest}
use Rattle.mc_task.specs.declared.task.Rule.TheVariants.{Plain, Virtual}
use Rattle.mc_task.specs.TaskSet.{Set, unscaled}
use Rattle.mc_model.specs.Loads.{lcm_from, hyperperiod, range_fault_from, range_fault}
use Rattle.mc_model.specs.Test.{published, rule_of, scale_holds_over, test}
use Rattle.mc_model.specs.CheckText.{check_text, rule_text, scale_text, load_texts, not_admitted_text}
use Rattle.mc_model.proofs.WorkedSets.{low_task, high_task, control, tap_and_arm, quarter_scale, two_high_tasks, plain_pair, avionics}

first_check : check_text (unscaled control) (Virtual 2 5) ≡ codes "tasks 2\nU_LL 1/2\nU_HL 1/5\nU_HH 3/5\nrule virtual\nx 2/5\n"
unfolding digits gcd gcd_steps lowest check_text rule_text load_texts
first_check = refl

-- the control set with the scale p/q
abbrev control_at : ℕ → ℕ → Set
control_at p q = record { tasks = control; scale = Some (record { p = p; q = q }) }

check_of_a_scale_that_holds : check_text (control_at 1 2) (Virtual 1 2) ≡ codes "tasks 2\nU_LL 1/2\nU_HL 1/5\nU_HH 3/5\nrule virtual\nx 1/2\n"
unfolding digits gcd gcd_steps lowest scale_holds_over check_text rule_text load_texts
check_of_a_scale_that_holds = refl

check_of_a_scale_that_does_not_hold : check_text (control_at 1 1) (Virtual 2 5)
    ≡ codes "tasks 2\nU_LL 1/2\nU_HL 1/5\nU_HH 3/5\nrule virtual\nx 2/5\nscale 1/1 does not hold\n"
unfolding digits gcd gcd_steps lowest scale_holds_over check_text rule_text scale_text load_texts
check_of_a_scale_that_does_not_hold = refl

-- the test gives the rule of a scale exactly where the scale holds
rules_of_scales : (test (unscaled control) ≡ Some (Virtual 2 5)) × (test (control_at 1 2) ≡ Some (Virtual 1 2)) × (test (control_at 4 5) ≡ Some (Virtual 4 5))
    × (test (control_at 5 6) ≡ Some (Virtual 2 5)) × (test (control_at 1 3) ≡ Some (Virtual 2 5))
unfolding gcd gcd_steps lowest rule_of published scale_holds_over test
rules_of_scales = (refl, refl, refl, refl, refl)

not_admitted_by_the_high_load : not_admitted_text (tap_and_arm 4) ≡ codes "not admitted: U_LL 1/2 U_HL 1/4 U_HH 1/1\n"
unfolding digits gcd gcd_steps lowest not_admitted_text load_texts
not_admitted_by_the_high_load = refl

rules : (published control ≡ Some (Virtual 2 5)) × (published (tap_and_arm 3) ≡ Some (Virtual 1 2)) × (published (tap_and_arm 4) ≡ None) × (published quarter_scale ≡ Some (Virtual 1 4))
    × (published two_high_tasks ≡ Some (Virtual 1 2)) × (published plain_pair ≡ Some Plain) × (published avionics ≡ Some (Virtual 916685 2133386))
unfolding gcd gcd_steps lowest rule_of published
rules = (refl, refl, refl, refl, refl, refl, refl)

load_exactly_one : published (low_task (codes "one") 2 2 ∷ []) ≡ Some Plain
unfolding rule_of published
load_exactly_one = refl

no_divisor : published (low_task (codes "tap") 2 2 ∷ high_task (codes "arm") 4 1 1 ∷ []) ≡ None
unfolding rule_of published
no_divisor = refl

period_range : (range_fault (low_task (codes "a") 4294967295 1 ∷ low_task (codes "b") 4294967294 1 ∷ []) ≡ Some 2)
    × (range_fault (low_task (codes "a") 2147483648 1 ∷ low_task (codes "b") 387420489 1 ∷ []) ≡ None)
    × (range_fault (low_task (codes "a") 2147483648 1 ∷ low_task (codes "b") 387420489 1 ∷ low_task (codes "c") 5 1 ∷ []) ≡ Some 3)
    × (hyperperiod avionics ≡ 3333400000)
unfolding gcd gcd_steps lcm lcm_from range_fault_from
period_range = (refl, refl, refl, refl)
