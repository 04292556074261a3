use Rattle.std.proofs.Common.{◌≡◌, ℕ, ◌+◌, ◌==◌, Bool, true, None, Err, sym, ap, ap₂, ◌∙◌, subst}
use Rattle.mode_core.specs.Events as core_event
use Rattle.mode_core.specs.declared.answers.GrantFault.TheVariants as grant_fault
use Rattle.timetable.specs.Floor.{FloorState, is_planned, tick_refusal}
use Rattle.timetable.specs.Shape.{IsStoredBy}
use Rattle.timetable.proofs.KeepsPlan.{stored_grant, grant_not_full}
use Rattle.timetable.proofs.floor.Floor.grant_now.Goals as goal

pub invariant_of-self : goal.invariant_of-self
invariant_of-self c =
    let none = subst (λ (f : FloorState). tick_refusal f ≡ None) (sym c.self.view_is) c.requires.none in
    let last : (c.in-Ok.granted.before + 1 == c.of-need.result) ≡ (c.from.result + 1 == c.from-in-Ok.result) = ap₂ (λ (m n : ℕ). m + 1 == n) (sym c.from.ensures) (sym c.from-in-Ok.ensures) in
    subst (λ (b : Bool). IsStoredBy c.self.inside.plan c.grant.new.self c.self.inside.taken c.self.inside.needs b) last
    (stored_grant c.self.inside.plan c.self.inside.core c.grant.new.self c.self.inside.taken c.args.task.0 c.of-need.result c.self.inside.needs c.self.inside.last c.in-Ok.granted
    c.ticks-sound.ensures.sound c.self.invariant none (sym c.grant.ensures.answer ∙ c.in-Ok.is) c.grant.ensures.state c.of-need.ensures)

pub returns-in-Err-clause-no_full : goal.returns-in-Err-clause-no_full
returns-in-Err-clause-no_full c planned e =
    let none = subst (λ (f : FloorState). tick_refusal f ≡ None) (sym c.self.view_is) c.requires.none in
    let now = subst (λ (f : FloorState). is_planned f.plan ≡ true) (sym c.self.view_is) planned in
    let full : c.in-Err.fault ≡ grant_fault.Full = cc in
    let answer : core_event.grant_answer c.self.inside.core c.args.task.0 ≡ Err grant_fault.Full = sym c.grant.ensures.answer ∙ (c.in-Err.is ∙ ap Err full) in
    grant_not_full c.self.inside.plan c.self.inside.core c.self.inside.taken c.args.task.0 c.self.inside.needs c.self.inside.last now c.ticks-sound.ensures.sound c.self.invariant none answer
