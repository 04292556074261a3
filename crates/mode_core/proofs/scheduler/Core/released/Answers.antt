use Rattle.std.proofs.Common.{List, ap, ◌∙◌, subst, sym}
use Rattle.mc_task.specs.TaskSet.{IsIn}
use Rattle.mc_model.specs.Core.{State, released_so_far}
use Rattle.arrivals.specs.declared.arrivals.Slot.{Slot}
use Rattle.arrivals.specs.Arrived.{HasTask, count_of}
use Rattle.arrivals.proofs.CallerLemmas.{HasTask-arrived, count_of-arrived}
use Rattle.mode_core.specs.Noted.{notes_of}
use Rattle.mode_core.specs.Shape.{state_of}
use Rattle.mode_core.proofs.Noted.{count_noted}
use Rattle.mode_core.proofs.scheduler.Core.released.Goals as goal

pub count-requires : goal.count-requires
count-requires g c =
    subst (λ (slots : List Slot). HasTask slots c.args.task.0) (sym c.self.invariant.notes_are)
    (HasTask-arrived c.self.inside.log.set (notes_of (state_of c.self.inside)) c.args.task.0
    (subst (λ (s : State). IsIn s.set c.args.task.0) (sym c.self.view_is) c.requires.in_set))

pub returns : goal.returns
returns g c =
    c.count.ensures ∙ ap (λ (slots : List Slot). count_of slots c.args.task.0) c.self.invariant.notes_are
    ∙ count_of-arrived c.self.inside.log.set (notes_of (state_of c.self.inside)) c.args.task.0 (subst (λ (s : State). IsIn s.set c.args.task.0) (sym c.self.view_is) c.requires.in_set)
    ∙ count_noted (state_of c.self.inside) c.args.task.0 ∙ ap (λ (s : State). released_so_far s c.args.task.0) c.self.view_is
