use Rattle.std.proofs.Common.{◌≡◌, ℕ, ◌∷◌, ◌++◌, [], ◌<◌, ◌≤◌, Ok, refl, sym, ap, ◌∙◌, subst}
use Rattle.tick_frac.specs.Numbers.{lcm}
use Rattle.demand_test.specs.DemandSet.{hyperperiod, most_lcm}
use Rattle.demand_test.proofs.ReadTasks.{lcm_from-push, in_order, out_of_range}
use Rattle.demand_test.proofs.record.multiple_with.Goals as goal

pub returns-in-Some-clause-value : goal.returns-in-Some-clause-value
returns-in-Some-clause-value c =
    let same : c.in-Some.multiple ≡ hyperperiod (c.args.before.now ++ c.args.task.now ∷ []) =
    cc (lcm_from-push 1 c.args.before.now c.args.task.now, c.in-Some.ensures.some.0) in
    ap Ok same
    ∙ sym (in_order c.args.before.now c.args.task.now c.if-task-eq0.false c.if-task-eq0-2.false c.if-task-eq0-3.false c.if-task.false (subst (λ (m : ℕ). m ≤ most_lcm) same c.in-Some.ensures.some.1))

pub returns-in-None-clause-value : goal.returns-in-None-clause-value
returns-in-None-clause-value c =
    let same : lcm c.from.result c.from-2.result ≡ hyperperiod (c.args.before.now ++ c.args.task.now ∷ []) = cc (lcm_from-push 1 c.args.before.now c.args.task.now) in
    sym (out_of_range c.args.before.now c.args.task.now c.if-task-eq0.false c.if-task-eq0-2.false c.if-task-eq0-3.false c.if-task.false (subst (λ (m : ℕ). most_lcm < m) same (c.in-None.ensures.none.0 refl)))
