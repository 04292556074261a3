use Rattle.std.proofs.Common.{List, ap, ◌∙◌, subst, sym}
use Rattle.mc_task.specs.TaskSet.{IsIn}
use Rattle.mc_model.specs.Core.{State, next}
use Rattle.arrivals.specs.declared.arrivals.Slot.{Slot}
use Rattle.arrivals.specs.Arrived.{HasTask}
use Rattle.arrivals.proofs.CallerLemmas.{HasTask-arrived}
use Rattle.mode_core.specs.Noted.{notes_of}
use Rattle.mode_core.specs.Shape.{state_of}
use Rattle.mode_core.proofs.Noted.{next_noted}
use Rattle.mode_core.proofs.scheduler.Core.next_allowed.Goals as goal

pub next_allowed-requires : goal.next_allowed-requires
next_allowed-requires g c =
    subst (λ (slots : List Slot). HasTask slots c.args.task.0) (sym c.self.invariant.notes_are)
    (HasTask-arrived c.self.inside.log.set (notes_of (state_of c.self.inside)) c.args.task.0
    (subst (λ (s : State). IsIn s.set c.args.task.0) (sym c.self.view_is) c.requires.in_set))

pub returns : goal.returns
returns g c =
    c.next_allowed.ensures.notes c.self.inside.log.set (notes_of (state_of c.self.inside)) c.self.invariant.notes_are
    ∙ next_noted (state_of c.self.inside) c.args.task.0 c.self.invariant.sound.tasks (subst (λ (s : State). IsIn s.set c.args.task.0) (sym c.self.view_is) c.requires.in_set)
    ∙ ap (λ (s : State). next s c.args.task.0) c.self.view_is
