use Rattle.std.proofs.Common.{◌≡◌, true, Some, None, sym, ◌∙◌, subst}
use Rattle.timetable.specs.Floor.{FloorState, is_planned, due, release_refusal}
use Rattle.timetable.proofs.KeepsPlan.{stored_release, IsRunning, release_faults}
use Rattle.timetable.proofs.floor.Floor.release_now.Goals as goal

pub invariant_of-self : goal.invariant_of-self
invariant_of-self c =
    let found = subst (λ (f : FloorState). due f ≡ Some c.in-Some.row) (sym c.self.view_is) (sym c.due-due.ensures ∙ c.in-Some.is) in
    let none = subst (λ (f : FloorState). release_refusal f c.args.task.0 ≡ None) (sym c.self.view_is) c.requires.none in
    stored_release c.self.inside.plan c.self.inside.core c.release.new.self c.self.inside.taken c.args.task.0 c.self.inside.needs c.note.new.self c.self.inside.last c.in-Some.row c.in-Ok.released
    c.ticks-sound.ensures.sound c.self.invariant found none (sym c.release.ensures.answer ∙ c.in-Ok.is) c.release.ensures.state c.note.ensures

pub returns-in-Err-clause-no_too_soon : goal.returns-in-Err-clause-no_too_soon
returns-in-Err-clause-no_too_soon c next planned e =
    let none = subst (λ (f : FloorState). release_refusal f c.args.task.0 ≡ None) (sym c.self.view_is) c.requires.none in
    let now = subst (λ (f : FloorState). is_planned f.plan ≡ true) (sym c.self.view_is) planned in
    let r : IsRunning c.in-Err.fault = release_faults c.self.inside.plan c.self.inside.core c.self.inside.taken c.args.task.0 c.self.inside.needs c.self.inside.last c.in-Err.fault now
    c.ticks-sound.ensures.sound c.self.invariant none (sym c.release.ensures.answer ∙ c.in-Err.is) in
    let is = r.is in
    cc

pub returns-in-Err-clause-no_full : goal.returns-in-Err-clause-no_full
returns-in-Err-clause-no_full c planned e =
    let none = subst (λ (f : FloorState). release_refusal f c.args.task.0 ≡ None) (sym c.self.view_is) c.requires.none in
    let now = subst (λ (f : FloorState). is_planned f.plan ≡ true) (sym c.self.view_is) planned in
    let r : IsRunning c.in-Err.fault = release_faults c.self.inside.plan c.self.inside.core c.self.inside.taken c.args.task.0 c.self.inside.needs c.self.inside.last c.in-Err.fault now
    c.ticks-sound.ensures.sound c.self.invariant none (sym c.release.ensures.answer ∙ c.in-Err.is) in
    let is = r.is in
    cc
