use Rattle.std.proofs.Common.{◌≡◌, None, ◌++◌, replicate, refl, subst, sym, ap, ◌∙◌, arith}
use Rattle.mc_model.specs.declared.row.Row.TheVariants.{Idle}
use Rattle.mc_model.specs.Core.{State}
use Rattle.mode_core.specs.Runs.{idles_refusal, after_idles}
use Rattle.mode_core.specs.Shape.{state_of}
use Rattle.mode_core.proofs.CoreSteps.{same_state}
use Rattle.mode_core.proofs.Going.{may_idle, idle_pending, idling_is, core_idles}
use Rattle.mode_core.proofs.scheduler.Core.add_idles.Goals as goal

pub push_idles-requires : goal.push_idles-requires
push_idles-requires g c =
    let s : State = state_of c.self.inside in
    let may = may_idle s c.args.count (subst (λ (x : State). idles_refusal x c.args.count ≡ None) (sym c.self.view_is) c.requires.none) in
    record { some = c.requires.some; none = idle_pending s c.self.invariant.sound c.args.count may; room = omega (arith, may.room) }

pub invariant_of-self : goal.invariant_of-self
invariant_of-self g c =
    let s : State = state_of c.self.inside in
    let may = may_idle s c.args.count (subst (λ (x : State). idles_refusal x c.args.count ≡ None) (sym c.self.view_is) c.requires.none) in
    core_idles c.self.inside _ c.args.count c.self.invariant may c.push_idles.ensures refl refl refl refl

pub returns-clause-state : goal.returns-clause-state
returns-clause-state g c =
    let a = c.self.inside in
    let s : State = state_of a in
    let may = may_idle s c.args.count (subst (λ (x : State). idles_refusal x c.args.count ≡ None) (sym c.self.view_is) c.requires.none) in
    same_state (record a { log = c.push_idles.new.self }) (record a.log { rows = replicate c.args.count Idle ++ a.log.rows }) a.out s.held c.push_idles.ensures refl refl
    ∙ (sym (idling_is s c.self.invariant.sound c.args.count may) ∙ ap (after_idles c.args.count) c.self.view_is)

pub returns-clause-sound : goal.returns-clause-sound
returns-clause-sound g c = (invariant_of-self g c).sound
