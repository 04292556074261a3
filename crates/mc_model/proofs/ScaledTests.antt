-- The test of a set with a scale: its rule holds, and it gives none exactly where the published test gives
-- none.
use Rattle.std.proofs.Common.{◌≡◌, ℕ, ◌+◌, ◌*◌, ◌≤◌, ◌↔◌, Bool, true, false, cond, nat_le, List, Option, Some, None, IsSome, refl, subst, arith}
use Rattle.std.specs.Bool.{Decides}
use Rattle.std.proofs.lemmas.Bool.Decides.{nat_tests, Decides-and, Decides-like}
use Rattle.mc_task.specs.declared.task.Task.{Task}
use Rattle.mc_task.specs.declared.task.Scale.{Scale}
use Rattle.mc_task.specs.declared.task.Rule.{Rule}
use Rattle.mc_task.specs.declared.task.Rule.TheVariants.{Virtual}
use Rattle.mc_task.specs.TaskSet.{AreTasks}
use Rattle.mc_model.specs.Loads.{product, load_ll, load_hl, load_hh}
use Rattle.mc_model.specs.Test.{published, scale_holds_over, scale_holds, scaled_or_published, test}
use Rattle.mc_model.specs.Holds.{Holds, HoldsOver, TestByHolds, TestRuleHolds, NoneWherePublishedNone}
use Rattle.mc_model.proofs.RuleHolds.{published-holds}
use Rattle.mc_model.proofs.HoldsAdmitted.{holds-admitted}

Decides-le : (x y : ℕ) → Decides (nat_le x y) (x ≤ y)
Decides-le x y = (λ h. grind (arith, nat_tests, h), λ h. grind (arith, nat_tests, h))

-- the test of numbers decides whether a scale holds
pub scale_holds_over-Decides : (n a b c p q : ℕ) → Decides (scale_holds_over n a b c p q) (HoldsOver n a b c (Virtual p q))
unfolding scale_holds_over
scale_holds_over-Decides n a b c p q =
    Decides-like _ (λ h. (h.0, h.1.0, h.1.1.0, h.1.1.1)) (λ h. (h.0, (h.1, (h.2, h.3))))
    (Decides-and _ _ (Decides-le 1 p) (Decides-and _ _ (Decides-le p q)
    (Decides-and _ _ (Decides-le (p * a + q * b) (p * n)) (Decides-le (p * a + q * c) (q * n)))))

-- the test of tasks decides whether a scale holds
pub scale_holds-Decides : (tasks : List Task) (x : Scale) → Decides (scale_holds tasks x) (Holds tasks (Virtual x.p x.q))
scale_holds-Decides tasks x = scale_holds_over-Decides (product tasks) (load_ll tasks) (load_hl tasks) (load_hh tasks) x.p x.q

-- the chosen rule holds: that of a scale that holds, otherwise the published one
chosen-holds : (tasks : List Task) (x : Scale) (rule : Rule) → AreTasks tasks → (b : Bool) → scale_holds tasks x ≡ b
    → cond b (Some (Virtual x.p x.q)) (published tasks) ≡ Some rule → Holds tasks rule
chosen-holds tasks x rule are true found h =
    let same : Virtual x.p x.q ≡ rule = cc in
    subst (λ r. Holds tasks r) same ((scale_holds-Decides tasks x).0 found)
chosen-holds tasks x rule are false found h = published-holds tasks rule are h

pub scaled_or_published-holds : (tasks : List Task) (scale : Option Scale) (rule : Rule) → AreTasks tasks → scaled_or_published tasks scale ≡ Some rule → Holds tasks rule
scaled_or_published-holds tasks None rule are h = published-holds tasks rule are h
scaled_or_published-holds tasks (Some x) rule are h = chosen-holds tasks x rule are (scale_holds tasks x) refl h

-- law: the test's rule holds
pub test-holds : TestRuleHolds
unfolding test
test-holds set rule are h = scaled_or_published-holds set.tasks set.scale rule are h

none_chosen : (tasks : List Task) (x : Scale) → AreTasks tasks → (b : Bool) → scale_holds tasks x ≡ b
    → (cond b (Some (Virtual x.p x.q)) (published tasks) ≡ None) ↔ (published tasks ≡ None)
none_chosen tasks x are true found =
    let some : IsSome (published tasks) = holds-admitted tasks (Virtual x.p x.q) are ((scale_holds-Decides tasks x).0 found) in
    (λ h. absurd (cc h), λ h. absurd (cc (rw h at some)))
none_chosen tasks x are false found = (λ h. h, λ h. h)

none_exactly : (tasks : List Task) (scale : Option Scale) → AreTasks tasks → (scaled_or_published tasks scale ≡ None) ↔ (published tasks ≡ None)
none_exactly tasks None are = (λ h. h, λ h. h)
none_exactly tasks (Some x) are = none_chosen tasks x are (scale_holds tasks x) refl

-- law: the test gives no rule exactly where the published test gives none
pub test-none : NoneWherePublishedNone
unfolding test
test-none set are = none_exactly set.tasks set.scale are

-- law: the test's rule is that of the scale if it holds, otherwise the published one
pub test-by_holds : TestByHolds
unfolding test
test-by_holds set = record { scaled = λ x is holds. taken set.tasks set.scale x is holds; otherwise = λ none. passed set.tasks set.scale none }
  where
    taken : (tasks : List Task) (scale : Option Scale) (x : Scale) → scale ≡ Some x → Holds tasks (Virtual x.p x.q) → scaled_or_published tasks scale ≡ Some (Virtual x.p x.q)
    taken tasks scale x is holds = rw (is, (scale_holds-Decides tasks x).1 holds)

    passed : (tasks : List Task) (scale : Option Scale) → ((x : Scale) → scale ≡ Some x → ¬ Holds tasks (Virtual x.p x.q)) → scaled_or_published tasks scale ≡ published tasks
    passed tasks None none = refl
    passed tasks (Some x) none = by (scale_holds tasks x) refl
      where
        by : (b : Bool) → scale_holds tasks x ≡ b → cond b (Some (Virtual x.p x.q)) (published tasks) ≡ published tasks
        by true found = absurd (none x refl ((scale_holds-Decides tasks x).0 found))
        by false found = refl
