use Rattle.std.proofs.Common.{◌<◌, ◌^◌, ◌∙◌, ap, subst, sym, rules, arith}
use Rattle.mc_model.specs.Holds.{Holds}
use Rattle.mc_model.specs.Verdict.{verdict, HasNoLate}
use Rattle.trace_judge.specs.Watched.{Watched, Watches}
use Rattle.trace_judge.proofs.Verdicts.{legal_verdict, no_late}
use Rattle.trace_judge.proofs.Watching.{a_monitor, tracked}
use Rattle.trace_judge.proofs.monitor.Monitor.verdict.Goals as goal

pub returns-in-None-clause-verdict : goal.returns-in-None-clause-verdict
returns-in-None-clause-verdict c =
    rw (← c.self.view_is) (λ h w. (
    let k = tracked h (a_monitor c.self.inside.set c.self.inside.rule c.self.inside.state c.self.inside.unfit) c.in-None.is w in
    let rows : c.self.inside.state.rows < 2 ^ 64 = search rules in
    c.legal.ensures ∙ legal_verdict c.self.inside.set.tasks c.self.inside.rule h c.self.inside.state k.0 k.1 (omega (arith, k.1.rows, rows)) c.all_late_jobs.result c.all_late_jobs.ensures))

pub returns-in-None-clause-no_late : goal.returns-in-None-clause-no_late
returns-in-None-clause-no_late c h w holds =
    let k = tracked h (a_monitor c.self.inside.set c.self.inside.rule c.self.inside.state c.self.inside.unfit) c.in-None.is (subst (Watches h) (sym c.self.view_is) w) in
    let same = ap (λ (m : Watched). verdict m.set.tasks m.rule h) (sym c.self.view_is) in
    subst HasNoLate (sym (returns-in-None-clause-verdict c h w ∙ same))
    (no_late c.self.inside.set.tasks c.self.inside.rule h c.len-is_set.ensures.set.each (subst (λ (m : Watched). Holds m.set.tasks m.rule) (sym c.self.view_is) holds) k.0)
