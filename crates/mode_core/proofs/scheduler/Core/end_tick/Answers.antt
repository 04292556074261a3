use Rattle.std.proofs.Common.{◌≡◌, None, subst, sym, ap, ◌∙◌, refl}
use Rattle.mode_core.specs.Events.{outcome_refusal}
use Rattle.mode_core.specs.Shape.{state_of}
use Rattle.mode_core.proofs.Sound.{ticking, ended}
use Rattle.mode_core.proofs.CoreSteps.{end_log, held_legal, end_state, core_end}
use Rattle.mode_core.proofs.scheduler.Core.end_tick.Goals as goal
use Rattle.mc_model.specs.Core.{State, outcome_of}

pub push_tick-how-requires-clause-legal : goal.push_tick-how-requires-clause-legal
push_tick-how-requires-clause-legal g c =
    let r = subst (λ (s : State). outcome_refusal s c.args.job ≡ None) (sym c.self.view_is) c.requires.none in
    (ticking (state_of c.self.inside) c.args.job c.self.invariant.sound r).legal c.args.done

pub write_held-requires-clause-legal : goal.write_held-requires-clause-legal
write_held-requires-clause-legal g c =
    let r = subst (λ (s : State). outcome_refusal s c.args.job ≡ None) (sym c.self.view_is) c.requires.none in
    let t = ticking (state_of c.self.inside) c.args.job c.self.invariant.sound r in
    held_legal c.self.inside c.args.job c.args.done c.push_tick-how.new.self c.deref.result.now c.self.invariant t c.push_tick-how.ensures.state c.deref.ensures.value

pub invariant_of-self : goal.invariant_of-self
invariant_of-self g c =
    let r = subst (λ (s : State). outcome_refusal s c.args.job ≡ None) (sym c.self.view_is) c.requires.none in
    let t = ticking (state_of c.self.inside) c.args.job c.self.invariant.sound r in
    let b = end_log c.self.inside c.args.job c.args.done c.push_tick-how.new.self c.write_held.new.log c.deref.result.now t c.push_tick-how.ensures.state c.deref.ensures.value c.write_held.ensures in
    core_end c.self.inside _ c.args.done c.self.invariant b refl c.clear.ensures.items c.clear.ensures.capacity refl

pub returns : goal.returns
returns g c =
    let a = c.self.inside in
    let r = subst (λ (s : State). outcome_refusal s c.args.job ≡ None) (sym c.self.view_is) c.requires.none in
    let t = ticking (state_of a) c.args.job c.self.invariant.sound r in
    let b =
    end_log a c.args.job c.args.done c.push_tick-how.new.self c.write_held.new.log c.deref.result.now t c.push_tick-how.ensures.state c.deref.ensures.value c.write_held.ensures in
    let after = record a { log = c.write_held.new.log; held = c.clear.new.self; out = None } in
    record {
      answer = subst (λ (s : State). c.push_tick-how.result ≡ outcome_of s.set s.rule s.rows c.args.job c.args.done) c.self.view_is c.push_tick-how.ensures.answer;
      state = end_state a after c.args.done b refl c.clear.ensures.items ∙ ap (λ (s : State). ended s c.args.done) c.self.view_is;
      sound = (invariant_of-self g c).sound;
    }
