use Rattle.std.proofs.Common.{arith}
use Rattle.mc_model.proofs.RuleCases.{virtual_rule}
use Rattle.mc_model.specs.Holds.{Fits}
use Rattle.admission.proofs.Numbers.{rule_of-plain_true, rule_of-virtual_true, rule_of-both_false, scale-fits}
use Rattle.admission.proofs.test.rule_over.Goals as goal

pub overflow_cast-result : goal.overflow_cast-result
overflow_cast-result c =
    let fits : Fits (virtual_rule c.new-x.result) = scale-fits c.args.n c.args.a c.args.b c.args.c c.new-x.result c.requires.n c.requires.high (cc) (cc) c.new-x.ensures.value in
    omega arith

pub overflow_cast-result-then-is_virtual : goal.overflow_cast-result-then-is_virtual
overflow_cast-result-then-is_virtual c =
    let fits : Fits (virtual_rule c.new-x.result) = scale-fits c.args.n c.args.a c.args.b c.args.c c.new-x.result c.requires.n c.requires.high (cc) (cc) c.new-x.ensures.value in
    omega arith

pub returns-then-is_plain-clause-rule : goal.returns-then-is_plain-clause-rule
returns-then-is_plain-clause-rule c = rule_of-plain_true c.args.n c.args.a c.args.b c.args.c (cc)

pub returns-then-is_virtual-clause-rule : goal.returns-then-is_virtual-clause-rule
returns-then-is_virtual-clause-rule c = cc (rule_of-virtual_true c.args.n c.args.a c.args.b c.args.c (cc) (cc))

pub returns-then-is_virtual-clause-fits : goal.returns-then-is_virtual-clause-fits
returns-then-is_virtual-clause-fits c =
    rw (c.num.ensures, c.den.ensures.value)
    (scale-fits c.args.n c.args.a c.args.b c.args.c c.new-x.result c.requires.n c.requires.high (cc) (cc) c.new-x.ensures.value)

pub returns-else-is_virtual-clause-rule : goal.returns-else-is_virtual-clause-rule
returns-else-is_virtual-clause-rule c = rule_of-both_false c.args.n c.args.a c.args.b c.args.c (cc) (cc)
