use Rattle.std.proofs.Common.{arith}
use Rattle.edfvd_c.proofs.sets.Causes.{periods_refused}
use Rattle.edfvd_c.proofs.traces.judged.set_under_rule.Goals as goal

pub returns-in-Err-clause-no_rule : goal.returns-in-Err-clause-no_rule
returns-in-Err-clause-no_rule c =
    let is = c.in-Err.ensures.fault.0 in
    record {
      refused = λ admitted named. periods_refused _ _ _ _ c.in_ok-set.ensures.few c.in_ok-set.ensures.tasks c.in_ok-set.ensures.set c.in-Err.ensures.fault;
      range = λ e. (omega arith, omega arith);
      not_admitted = λ e. absurd (omega (arith, is, e));
      no_scale = λ e. absurd (omega (arith, is, e));
    }
