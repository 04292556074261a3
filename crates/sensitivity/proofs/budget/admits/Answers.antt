use Rattle.std.proofs.Common.{ap, ◌∙◌}
use Rattle.std.specs.Prelude.{is_some}
use Rattle.load_sum.specs.Belong.{BelongTo}
use Rattle.admission.proofs.Sets.{rule_of-published}
use Rattle.sensitivity.specs.Budgets.{set_with}
use Rattle.sensitivity.proofs.Budgets.{set_with-BelongTo, AreSmall-of, IsPart-of}
use Rattle.sensitivity.proofs.budget.admits.Goals as goal

pub loads_with-changed-requires-clause-small : goal.loads_with-changed-requires-clause-small
loads_with-changed-requires-clause-small c = AreSmall-of c.args.set.now.tasks c.args.loads.now c.requires.loads

pub loads_with-changed-requires-clause-part : goal.loads_with-changed-requires-clause-part
loads_with-changed-requires-clause-part c = IsPart-of c.args.set.now.tasks c.args.task.0 c.args.t.now c.args.loads.now c.requires.loads c.requires.task

pub returns : goal.returns
returns c =
    let set = set_with c.args.which c.args.set.now.tasks c.args.task.0 c.args.budget in
    let belong : BelongTo set c.loads_with-changed.result =
    set_with-BelongTo c.args.which c.args.budget c.args.task.0 c.args.set.now.tasks c.args.t.now c.args.loads.now c.loads_with-changed.result c.requires.loads c.requires.task c.requires.own
    c.requires.least c.requires.most (rw c.with_budget.ensures at c.loads_with-changed.ensures) in
    rw c.from.ensures at c.is_admitted.ensures ∙ ap is_some (rule_of-published set c.loads_with-changed.result belong)
