use Rattle.std.proofs.Common.{◌≡◌, Some, sym, ◌∙◌, subst}
use Rattle.std.proofs.lemmas.Bool.{false≢true}
use Rattle.mc_task.specs.declared.task.Scale.{Scale}
use Rattle.mc_task.specs.declared.task.Rule.TheVariants.{Virtual}
use Rattle.mc_model.specs.Holds.{Holds}
use Rattle.mc_model.proofs.ScaledTests.{test-by_holds, test-holds, test-none}
use Rattle.admission.proofs.test.admit_scaled.Goals as goal
use Rattle.admission.proofs.test.admit_scaled.Goals.{in_default-via-in-Some+else-holds_for, in_default-via-in_default}

pub returns-in-Some-clause-test : goal.returns-in-Some-clause-test
returns-in-Some-clause-test c = λ set belong same.
    sym ((test-by_holds set).scaled c.in-Some.x (same ∙ c.in-Some.is) ((c.holds_for.ensures.exactly set.tasks belong).0 c.if-holds_for.true))

pub returns-in-Some-clause-by_holds : goal.returns-in-Some-clause-by_holds
returns-in-Some-clause-by_holds c = test-by_holds

pub returns-in-Some-clause-law : goal.returns-in-Some-clause-law
returns-in-Some-clause-law c = test-holds

pub returns-in-Some-clause-none : goal.returns-in-Some-clause-none
returns-in-Some-clause-none c = test-none

-- no scale holds: the set has one that does not hold, or none
pub returns-in_default-clause-test : goal.returns-in_default-clause-test
returns-in_default-clause-test c = λ set belong same.
    let none : (x : Scale) → set.scale ≡ Some x → ¬ Holds set.tasks (Virtual x.p x.q) = λ x is holds.
    elim c.in_default.branch [
      | in_default-via-in-Some+else-holds_for w ↦
          let given : x ≡ w.in-Some.x = cc (w.in-Some.is, same, is) in
          false≢true (sym w.if-holds_for.false ∙ (w.holds_for.ensures.exactly set.tasks belong).1 (subst (λ (y : Scale). Holds set.tasks (Virtual y.p y.q)) given holds))
      | in_default-via-in_default w ↦ absurd (cc (w.in_default.is, same, is))
    ] in
    c.admit.ensures.published set.tasks belong ∙ sym ((test-by_holds set).otherwise none)

pub returns-in_default-clause-by_holds : goal.returns-in_default-clause-by_holds
returns-in_default-clause-by_holds c = test-by_holds

pub returns-in_default-clause-law : goal.returns-in_default-clause-law
returns-in_default-clause-law c = test-holds

pub returns-in_default-clause-none : goal.returns-in_default-clause-none
returns-in_default-clause-none c = test-none
