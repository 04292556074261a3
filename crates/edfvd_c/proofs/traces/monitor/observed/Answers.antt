use Rattle.std.proofs.Common.{◌∙◌, refl, sym, ap, arith, subst, Option, Ok}
use Rattle.mc_model.specs.declared.run.Run.{Run}
use Rattle.edfvd_c.specs.Status.{OK}
use Rattle.edfvd_c.specs.Traces.Monitor as spec
use Rattle.edfvd_c.proofs.traces.Reasons.{reason_of}
use Rattle.edfvd_c.proofs.traces.monitor.observed.Goals as goal

pub returns-in-Ok : goal.returns-in-Ok
returns-in-Ok c =
    let is = sym c.run_in.ensures ∙ c.in-Some.is in
    record {
      taken = λ e. (
        c.in-Some.run',
        c.observe.new.self,
        is,
        refl,
        record {
          set = c.in-Ok.ensures.set;
          rule = c.in-Ok.ensures.rule;
          rows = c.in-Ok.ensures.rows;
          found = λ h w. c.unfit_row-in-Ok.ensures ∙ ap spec.unfit_row (c.in-Ok.ensures.answer h w);
        },
      );
      refused = λ e. absurd (e refl);
      reason = subst (λ (run : Option Run). spec.HasReason run c.args.monitor.now OK) (sym is) (reason_of c.in-Some.run' c.args.monitor.now (Ok c.in-Ok.unfit) c.in-Ok.ensures.unknown c.in-Ok.ensures.not_a_run c.in-Ok.ensures.full);
      memory = λ e. absurd (omega (arith, e));
    }
