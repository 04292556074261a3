use Rattle.std.proofs.lemmas.Bool.{OnTrue_from}
use Rattle.mc_model.proofs.ThreeQuarters.{three_quarters-admitted}
use Rattle.admission.proofs.Sets.{IsThreeQuarters-loads}
use Rattle.admission.proofs.test.three_quarters.Goals as goal

pub returns-clause-exactly : goal.returns-clause-exactly
returns-clause-exactly c = λ set belong.
    let over = rw c.from.ensures at c.is_three_quarters_over.ensures in
    let same = IsThreeQuarters-loads set c.args.loads.now belong in
    (λ yes. same.0 (over.0 yes), λ most. over.1 (same.1 most))

pub returns-clause-admitted : goal.returns-clause-admitted
returns-clause-admitted c = λ set belong. OnTrue_from _ _ (λ yes. three_quarters-admitted set belong.set ((returns-clause-exactly c set belong).0 yes))

pub returns-clause-law : goal.returns-clause-law
returns-clause-law c = three_quarters-admitted
