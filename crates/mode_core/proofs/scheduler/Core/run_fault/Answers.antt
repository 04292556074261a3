use Rattle.std.proofs.Common.{◌∙◌, sym, ap}
use Rattle.std.proofs.lemmas.Bool.{not-false}
use Rattle.mc_model.specs.Core.{State}
use Rattle.mc_model.proofs.Jobs.{job_eq}
use Rattle.mode_core.proofs.Going.{refusal_is}
use Rattle.mode_core.proofs.scheduler.Core.run_fault.Goals as goal

pub returns-clause-value : goal.returns-clause-value
returns-clause-value g c =
    let out = ap (λ (x : State). x.out) (sym c.self.view_is) ∙ c.in_default.is in
    let job = job_eq c.in-Some-boundary.field-0.job c.args.job (not-false _ (sym c.ne.ensures ∙ c.if-ne.false)) in
    c.length_fault.ensures ∙ sym (refusal_is c.args.self.now c.args.job c.args.ticks c.in-Some-boundary.field-0 out (sym c.in-Some-boundary.is ∙ c.boundary.ensures.value) job)
