use Rattle.std.proofs.Common.{◌≡◌, ◌-◌, ◌<◌, List, length, ap, ◌∙◌, arith}
use Rattle.std.proofs.lemmas.List.{get_or_read}
use Rattle.mc_task.specs.declared.task.Task.{Task}
use Rattle.arrivals.specs.declared.arrivals.Slot.{Slot}
use Rattle.arrivals.specs.Notes.{Note}
use Rattle.arrivals.specs.Arrived.{arrived, next_of}
use Rattle.arrivals.proofs.Slots.{no_slot, next_of-arrived}
use Rattle.arrivals.proofs.arrivals.Arrivals.next_allowed.Goals as goal

pub returns-clause-value : goal.returns-clause-value
returns-clause-value c =
    let within : c.args.task.0 - 1 < length c.self.inside.slots.items = omega (arith, ap length c.self.view_is) in
    ap (λ (s : Slot). s.next) (get_or_read c.self.inside.slots.items (c.args.task.0 - 1) c.index.result.now within c.index.ensures no_slot)
    ∙ ap (λ (slots : List Slot). next_of slots c.args.task.0) c.self.view_is

pub returns-clause-notes : goal.returns-clause-notes
returns-clause-notes c = λ (set : List Task) (notes : List Note) (kept : c.args.self.now ≡ arrived set notes).
    returns-clause-value c ∙ ap (λ (slots : List Slot). next_of slots c.args.task.0) kept ∙ next_of-arrived set notes c.args.task.0 c.requires.0
