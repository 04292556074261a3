use Rattle.std.proofs.Common.{◌∙◌, sym, subst}
use Rattle.study.specs.Stretch.{IsStretch}
use Rattle.study.proofs.Percentages.{stretch-none, stretch-some, stretch-greatest, less-admitted}
use Rattle.study.proofs.room.stretch.Goals as goal

pub returns-in_err-most-clause-value : goal.returns-in_err-most-clause-value
returns-in_err-most-clause-value c =
    c.from_residual.ensures ∙ stretch-none c.args.set.now.tasks c.args.loads.now c.requires (rw c.from.ensures at c.in_err-most.ensures)

pub returns-in_err-most-clause-greatest : goal.returns-in_err-most-clause-greatest
returns-in_err-most-clause-greatest c = subst (λ o. IsStretch c.args.set.now.tasks o) (sym (returns-in_err-most-clause-value c)) (stretch-greatest c.args.set.now.tasks)

pub returns-in_err-most-clause-law : goal.returns-in_err-most-clause-law
returns-in_err-most-clause-law c = less-admitted

pub returns-clause-value : goal.returns-clause-value
returns-clause-value c =
    c.greatest.ensures ∙ stretch-some c.args.set.now.tasks c.args.loads.now c.in_ok-most.most c.requires (rw c.from.ensures at c.in_ok-most.ensures)

pub returns-clause-greatest : goal.returns-clause-greatest
returns-clause-greatest c = subst (λ o. IsStretch c.args.set.now.tasks o) (sym (returns-clause-value c)) (stretch-greatest c.args.set.now.tasks)

pub returns-clause-law : goal.returns-clause-law
returns-clause-law c = less-admitted
