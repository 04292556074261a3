use Rattle.std.proofs.Common.{rules, inl, inr, refl, arith}
use Rattle.edfvd_c.proofs.sets.Causes.{memory_refused}
use Rattle.edfvd_c.proofs.traces.judged.judge_given.Goals as goal

pub returns-clause-judged : goal.returns-clause-judged
returns-clause-judged c = search rules

pub returns-clause-unjudged : goal.returns-clause-unjudged
returns-clause-unjudged c =
    let under = c.in_ok-set.ensures.under in
    let no = c.no-in-Err-verdict_on.ensures in
    rw (no.0, no.1) (elim c.in-Err-verdict_on.ensures.status [
      | inl memory ↦ rw memory (record {
        no_rule = λ argument full no_task. memory_refused _ _ _ _ under.numbers under.set;
        argument = λ e. absurd (omega (arith, e));
        full = λ e. absurd (omega (arith, e));
        no_task = λ e. absurd (omega (arith, e));
        of_none = λ e. refl;
      })
      | inr is ↦ record {
        no_rule = λ argument full no_task. absurd (no_task is);
        argument = λ e. absurd (omega (arith, e, is));
        full = λ e. absurd (omega (arith, e, is));
        no_task = λ e. (c.in-Ok.ensures.few, (_, _, under, (_, c.in-Ok.ensures.rows, rw c.deref.ensures.value at (c.in-Err-verdict_on.ensures.no_task is))));
        of_none = λ e. refl;
      }
    ])
