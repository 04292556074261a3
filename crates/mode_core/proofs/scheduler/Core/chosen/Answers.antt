use Rattle.std.proofs.Common.{Some, None, sym, subst}
use Rattle.mc_task.specs.TaskSet.{IsIn}
use Rattle.mc_model.specs.Core.{State}
use Rattle.mode_core.specs.Choice.{IsChoice}
use Rattle.mode_core.proofs.ChoiceLaw.{choice_of}
use Rattle.mode_core.proofs.CoreSteps.{first_job, no_job_first}
use Rattle.mode_core.proofs.Fits.{chooses}
use Rattle.mode_core.proofs.scheduler.Core.chosen.Goals as goal

pub returns-in-Some-clause-law : goal.returns-in-Some-clause-law
returns-in-Some-clause-law g c =
    subst (λ (s : State). IsChoice s.set s.rule s.rows (Some c.in-Some.x.job)) c.self.view_is
    (choice_of c.self.inside.log.set c.self.inside.log.rule c.self.inside.log.rows (Some c.in-Some.x.job) (first_job c.self.inside.log.rows _ c.in-Some.x c.in-Some.ensures))

pub returns-in-None-clause-law : goal.returns-in-None-clause-law
returns-in-None-clause-law g c =
    subst (λ (s : State). IsChoice s.set s.rule s.rows None) c.self.view_is
    (choice_of c.self.inside.log.set c.self.inside.log.rule c.self.inside.log.rows None (no_job_first c.self.inside.log.rows _ c.in-None.ensures))

pub returns-in-Some-clause-task : goal.returns-in-Some-clause-task
returns-in-Some-clause-task g c =
    let sound = c.self.invariant.sound in
    let is = first_job c.self.inside.log.rows _ c.in-Some.x c.in-Some.ensures in
    subst (λ (s : State). IsIn s.set c.in-Some.x.job.task.0) c.self.view_is (chooses _ _ _ _ sound.tasks.each sound.good.legal (sym is)).inside
