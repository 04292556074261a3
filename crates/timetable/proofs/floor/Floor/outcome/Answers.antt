use Rattle.std.proofs.Common.{◌≡◌, cond, sym, ap, ◌∙◌, subst}
use Rattle.mc_model.specs.Core.{State}
use Rattle.timetable.specs.Floor.{FloorState, is_planned, outcome_answer, after_outcome}
use Rattle.timetable.proofs.KeepsPlan.{same_outcome}
use Rattle.timetable.proofs.floor.Floor.outcome.Goals.{then-is_planned, else-is_planned}
use Rattle.timetable.proofs.floor.Floor.outcome.Goals as goal

pub returns : goal.returns
returns c =
    let planned : c.is_planned.result ≡ is_planned c.self.inside.plan = subst (λ (f : FloorState). c.is_planned.result ≡ is_planned f.plan) (sym c.self.view_is) c.is_planned.ensures in
    let d : c.if-is_planned.done ≡ cond (is_planned c.self.inside.plan) c.self.inside.last c.args.done = elim c.if-is_planned.branch [
      | then-is_planned w ↦ rw (sym planned ∙ w.if-is_planned.true) w.done-is
      | else-is_planned w ↦ rw (sym planned ∙ w.if-is_planned.false) w.done-is
    ] in
    let same = same_outcome c.self.inside.plan c.self.inside.core c.self.inside.taken c.self.inside.needs c.self.inside.last c.args.done c.if-is_planned.done c.args.job c.self.invariant d in
    record {
      answer = c.outcome.ensures.answer ∙ (same.0 ∙ ap (λ (f : FloorState). outcome_answer f c.args.job c.args.done) c.self.view_is);
      state =
          ap (λ (s : State). let f : FloorState = record { core = s; plan = c.self.inside.plan; taken = c.self.inside.taken } in f) (c.outcome.ensures.state ∙ same.1)
          ∙ ap (λ (f : FloorState). after_outcome f c.args.job c.args.done) c.self.view_is;
      timely = c.outcome.ensures.timely;
    }
