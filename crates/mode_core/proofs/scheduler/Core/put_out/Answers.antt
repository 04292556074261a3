use Rattle.std.proofs.Common.{◌≡◌, None, subst, sym, refl}
use Rattle.mode_core.specs.Events.{grant_refusal}
use Rattle.mode_core.proofs.CoreSteps.{core_give, first_job}
use Rattle.mode_core.proofs.scheduler.Core.put_out.Goals as goal
use Rattle.mc_model.specs.Core.{State}

pub invariant_of-self : goal.invariant_of-self
invariant_of-self g c =
    core_give c.self.inside _ c.args.task.0 c.self.invariant
    (subst (λ (s : State). grant_refusal s c.args.task.0 ≡ None) (sym c.self.view_is) c.requires.none)
    refl (first_job c.self.inside.log.rows _ c.in-Some.x c.in-Some.ensures) refl refl refl

pub returns-clause-sound : goal.returns-clause-sound
returns-clause-sound g c = (invariant_of-self g c).sound
