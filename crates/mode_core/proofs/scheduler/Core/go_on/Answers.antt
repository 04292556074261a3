use Rattle.std.proofs.Common.{◌≡◌, ◌+◌, None, ◌++◌, replicate, refl, subst, sym, ap, ◌∙◌, arith}
use Rattle.mc_model.specs.declared.row.How.TheVariants.{More}
use Rattle.mc_model.specs.declared.row.Row.TheVariants.{Tick}
use Rattle.mc_model.specs.Core.{State}
use Rattle.mode_core.specs.Runs.{run_refusal, going}
use Rattle.mode_core.specs.Shape.{state_of, IsSoundUpTo}
use Rattle.mode_core.proofs.CoreSteps.{same_state}
use Rattle.mode_core.proofs.Going.{may_run, core_going}
use Rattle.mode_core.proofs.scheduler.Core.go_on.Goals as goal

pub push_more-requires : goal.push_more-requires
push_more-requires g c =
    let s : State = state_of c.self.inside in
    let may = may_run s c.args.job (c.args.ticks + 1) (subst (λ (x : State). run_refusal x c.args.job (c.args.ticks + 1) ≡ None) (sym c.self.view_is) c.requires.none) in
    record { chosen = may.chosen; left = omega (arith, may.left); room = omega (arith, may.room) }

pub invariant_of-self : goal.invariant_of-self
invariant_of-self g c =
    let s : State = state_of c.self.inside in
    let may = may_run s c.args.job (c.args.ticks + 1) (subst (λ (x : State). run_refusal x c.args.job (c.args.ticks + 1) ≡ None) (sym c.self.view_is) c.requires.none) in
    core_going c.self.inside _ c.args.job c.args.ticks c.self.invariant may c.push_more.ensures refl refl refl refl

pub returns-clause-state : goal.returns-clause-state
returns-clause-state g c =
    let a = c.self.inside in
    same_state (record a { log = c.push_more.new.self }) (record a.log { rows = replicate c.args.ticks (Tick c.args.job More) ++ a.log.rows }) a.out (state_of a).held c.push_more.ensures refl refl
    ∙ ap (λ (x : State). going x c.args.job c.args.ticks) c.self.view_is

pub returns-clause-before : goal.returns-clause-before
returns-clause-before g c = subst (λ (x : State). IsSoundUpTo g.R.Recorder.most x) c.self.view_is c.self.invariant.sound
