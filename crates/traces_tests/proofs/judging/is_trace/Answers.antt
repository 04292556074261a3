use Rattle.std.proofs.Common.{◌∙◌}
use Rattle.traces_tests.proofs.JudgedTraces.{judged_trace}
use Rattle.traces_tests.proofs.judging.is_trace.Goals as goal

pub returns-clause-trace : goal.returns-clause-trace
returns-clause-trace c legal =
    judged_trace c.args.set.now.tasks c.args.rule c.args.runs.now (c.fits.ensures c.if-not-fits.false) (c.are_of_set.ensures c.if-not-are_of_set.false)
    (λ f lates is. c.is_legal.ensures legal f lates (c.in_ok-judge.ensures.verdict ∙ is))
