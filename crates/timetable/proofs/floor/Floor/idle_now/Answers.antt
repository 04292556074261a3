use Rattle.std.proofs.Common.{◌≡◌, true, None, Err, sym, ap, ◌∙◌, subst}
use Rattle.mode_core.specs.Events as core_event
use Rattle.mode_core.specs.declared.answers.IdleFault.TheVariants as idle_fault
use Rattle.timetable.specs.Floor.{FloorState, is_planned, tick_refusal}
use Rattle.timetable.proofs.KeepsPlan.{stored_idle, idle_not_full}
use Rattle.timetable.proofs.floor.Floor.idle_now.Goals.{in-Ok, in-Err}
use Rattle.timetable.proofs.floor.Floor.idle_now.Goals as goal

pub invariant_of-self : goal.invariant_of-self
invariant_of-self c =
    let none = subst (λ (f : FloorState). tick_refusal f ≡ None) (sym c.self.view_is) c.requires.none in
    stored_idle c.self.inside.plan c.self.inside.core c.idle.new.self c.self.inside.taken c.self.inside.needs c.self.inside.last c.ticks-sound.ensures.sound c.self.invariant none c.idle.ensures.state

pub returns-clause-no_full : goal.returns-clause-no_full
returns-clause-no_full c planned e =
    let none = subst (λ (f : FloorState). tick_refusal f ≡ None) (sym c.self.view_is) c.requires.none in
    let now = subst (λ (f : FloorState). is_planned f.plan ≡ true) (sym c.self.view_is) planned in
    let full : core_event.idle_answer c.self.inside.core ≡ Err idle_fault.Full = elim c.match-idle.branch [
      | in-Ok w ↦ let is = w.result-is in cc
      | in-Err w ↦ let is = w.result-is in let f : w.in-Err.fault ≡ idle_fault.Full = cc in sym c.idle.ensures.answer ∙ (w.in-Err.is ∙ ap Err f)
    ] in
    idle_not_full c.self.inside.plan c.self.inside.core c.self.inside.taken c.self.inside.needs c.self.inside.last now c.ticks-sound.ensures.sound c.self.invariant none full
