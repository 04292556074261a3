use Rattle.std.proofs.Common.{◌≡◌, ℕ, ◌+◌, ◌-◌, ◌<◌, List, length, set, ap, ◌∙◌, arith}
use Rattle.std.proofs.lemmas.List.{get_or_read}
use Rattle.mc_task.specs.declared.task.Task.{Task}
use Rattle.arrivals.specs.declared.arrivals.Slot.{Slot}
use Rattle.arrivals.specs.Notes.{Note}
use Rattle.arrivals.specs.Arrived.{arrived, with_note}
use Rattle.arrivals.proofs.Slots.{noted, no_slot, arrived_more}
use Rattle.arrivals.proofs.arrivals.Arrivals.note.Goals as goal

abbrev slot_with : Slot → ℕ → Slot
slot_with s next = record { period = s.period; count = s.count + 1; next = next }

pub returns-clause-noted : goal.returns-clause-noted
returns-clause-noted c =
    let within : c.args.task.0 - 1 < length c.self.inside.slots.items = omega (arith, ap length c.self.view_is) in
    ap (λ (n : ℕ). set c.self.inside.slots.items (c.args.task.0 - 1) (slot_with c.index_mut-slot.result.now (c.args.at + n))) c.from.ensures
    ∙ ap (λ (s : Slot). set c.self.inside.slots.items (c.args.task.0 - 1) (noted c.args.at s)) (get_or_read c.self.inside.slots.items (c.args.task.0 - 1) c.index_mut-slot.result.now within c.index_mut-slot.ensures.value no_slot)
    ∙ ap (λ (slots : List Slot). with_note slots c.args.task.0 c.args.at) c.self.view_is

pub returns-clause-notes : goal.returns-clause-notes
returns-clause-notes c = λ (tasks : List Task) (notes : List Note) (kept : c.args.self.now ≡ arrived tasks notes).
    let number : c.args.task.0 ≡ 1 + (c.args.task.0 - 1) = omega arith in
    returns-clause-noted c
    ∙ ap (λ (slots : List Slot). with_note slots c.args.task.0 c.args.at) kept
    ∙ arrived_more c.args.task.0 c.args.at 1 (c.args.task.0 - 1) tasks notes number
