use Rattle.std.proofs.Common.{◌∙◌}
use Rattle.mc_model.proofs.EdfOrScaled.{edf_or_scaled}
use Rattle.mc_model.proofs.RuleHolds.{published-holds}
use Rattle.admission.proofs.Sets.{high_low-most, high_low-pos, rule_of-published, Holds-from_published}
use Rattle.admission.proofs.test.admit.Goals as goal

pub rule_over-requires-clause-order : goal.rule_over-requires-clause-order
rule_over-requires-clause-order c = high_low-most c.requires.tasks c.args.loads.now c.requires.belong

pub rule_over-requires-clause-high : goal.rule_over-requires-clause-high
rule_over-requires-clause-high c = high_low-pos c.requires.tasks c.args.loads.now c.requires.belong

pub returns-clause-published : goal.returns-clause-published
returns-clause-published c = λ set belong. rw c.from.ensures at c.rule_over.ensures.rule ∙ rule_of-published set c.args.loads.now belong

pub returns-clause-holds : goal.returns-clause-holds
returns-clause-holds c = Holds-from_published c.args.loads.now c.rule_over.result (returns-clause-published c)

pub returns-clause-law : goal.returns-clause-law
returns-clause-law c = published-holds

pub returns-clause-edf_or_scaled : goal.returns-clause-edf_or_scaled
returns-clause-edf_or_scaled c = edf_or_scaled
