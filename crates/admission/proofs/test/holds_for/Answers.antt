use Rattle.std.proofs.lemmas.Bool.{OnTrue_from}
use Rattle.mc_task.specs.declared.task.Rule.TheVariants.{Virtual}
use Rattle.mc_model.proofs.HoldsAdmitted.{holds-admitted}
use Rattle.admission.proofs.Sets.{Holds-loads}
use Rattle.admission.proofs.test.holds_for.Goals as goal

pub returns-clause-exactly : goal.returns-clause-exactly
returns-clause-exactly c = λ set belong.
    let over = rw (c.from.ensures, c.from-p.ensures, c.from-q.ensures) at c.holds_over.ensures in
    let same = Holds-loads set c.args.loads.now (Virtual c.args.p c.args.q) belong in
    (λ yes. same.0 (over.0 yes), λ holds. over.1 (same.1 holds))

pub returns-clause-admitted : goal.returns-clause-admitted
returns-clause-admitted c = λ set belong. OnTrue_from _ _ (λ yes. holds-admitted set (Virtual c.args.p c.args.q) belong.set ((returns-clause-exactly c set belong).0 yes))

pub returns-clause-law : goal.returns-clause-law
returns-clause-law c = holds-admitted
