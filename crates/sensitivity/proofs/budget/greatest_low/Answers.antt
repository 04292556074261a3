use Rattle.sensitivity.proofs.Budgets.{less-admitted, less-load-admitted, stays-a-set}
use Rattle.sensitivity.proofs.budget.greatest_low.Goals as goal

pub returns-clause-law : goal.returns-clause-law
returns-clause-law c = less-admitted

pub returns-clause-loads : goal.returns-clause-loads
returns-clause-loads c = less-load-admitted

pub returns-clause-set : goal.returns-clause-set
returns-clause-set c = stays-a-set
