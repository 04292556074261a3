use Rattle.std.proofs.Common.{◌≡◌, List, ◌∙◌}
use Rattle.mc_task.specs.declared.task.Task.{Task}
use Rattle.mc_task.specs.declared.task.Rule.TheVariants.{Virtual}
use Rattle.mc_model.specs.Holds.{Holds}
use Rattle.mc_model.specs.Test.{published}
use Rattle.mc_model.proofs.RuleHolds.{published-holds}
use Rattle.mc_model.proofs.HoldsAdmitted.{holds-admitted}
use Rattle.load_sum.specs.Belong.{BelongTo}
use Rattle.admission.proofs.Sets.{high_low-most, high_low-pos, rule_of-published, Holds-loads}
use Rattle.sensitivity.specs.Scales.{HoldBetween, NoScaleHolds}
use Rattle.sensitivity.proofs.Between.{IfSome-then, IfSome-at, IfNone-then, IsSome-unless, some-scale}
use Rattle.sensitivity.proofs.Admitted.{value_of}
use Rattle.sensitivity.proofs.scale_range.scales.Goals as goal

pub scales_over-requires-clause-order : goal.scales_over-requires-clause-order
scales_over-requires-clause-order c = high_low-most c.requires.tasks c.args.loads.now c.requires.belong

pub scales_over-requires-clause-high : goal.scales_over-requires-clause-high
scales_over-requires-clause-high c = high_low-pos c.requires.tasks c.args.loads.now c.requires.belong

pub returns-clause-between : goal.returns-clause-between
returns-clause-between c =
    IfSome-then c.scales_over.result _ (λ s. (tasks : List Task) → BelongTo tasks c.args.loads.now → HoldBetween s.least s.greatest tasks)
    (λ s over tasks belong p q some order.
    let same = Holds-loads tasks c.args.loads.now (Virtual p q) belong in
    let between = over p q some order in
    (λ holds. between.0 (same.1 holds), λ within. same.0 (between.1 within))) (rw c.from.ensures at c.scales_over.ensures.between)

pub returns-clause-greatest : goal.returns-clause-greatest
returns-clause-greatest c =
    IfSome-then c.scales_over.result _ (λ s. (tasks : List Task) → BelongTo tasks c.args.loads.now → Holds tasks (Virtual s.greatest.num s.greatest.den))
    (λ s over tasks belong. (Holds-loads tasks c.args.loads.now (Virtual s.greatest.num s.greatest.den) belong).0 over) (rw c.from.ensures at c.scales_over.ensures.greatest)

pub returns-clause-none : goal.returns-clause-none
returns-clause-none c =
    IfNone-then c.scales_over.result _ ((tasks : List Task) → BelongTo tasks c.args.loads.now → NoScaleHolds tasks)
    (λ over tasks belong p q holds. over p q ((Holds-loads tasks c.args.loads.now (Virtual p q) belong).1 holds)) (rw c.from.ensures at c.scales_over.ensures.none)

pub returns-clause-published : goal.returns-clause-published
returns-clause-published c = λ tasks p q belong gives. (
  IsSome-unless c.scales_over.result _ (returns-clause-none c) (λ none. none tasks belong p q (published-holds tasks (Virtual p q) belong.set gives)),
  IfSome-then c.scales_over.result _ (λ s. (s.least.num ≡ p) × (s.least.den ≡ q)) (λ s over. over p q (rule_of-published tasks c.args.loads.now belong ∙ gives))
      (rw c.from.ensures at c.scales_over.ensures.published),
)

pub returns-clause-admitted : goal.returns-clause-admitted
returns-clause-admitted c = λ tasks belong. (
  λ some.
      let (range, is) = value_of c.scales_over.result some in
      let holds : Holds tasks (Virtual range.greatest.num range.greatest.den) =
      IfSome-at c.scales_over.result (λ s. (tasks : List Task) → BelongTo tasks c.args.loads.now → Holds tasks (Virtual s.greatest.num s.greatest.den)) range is (returns-clause-greatest c) tasks belong in
      holds-admitted tasks (Virtual range.greatest.num range.greatest.den) belong.set holds,
  λ admitted.
      let (rule, gives) = value_of (published tasks) admitted in
      let (p, q, holds) = some-scale tasks rule belong.set (published-holds tasks rule belong.set gives) in
      IsSome-unless c.scales_over.result _ (returns-clause-none c) (λ none. none tasks belong p q holds),
)
