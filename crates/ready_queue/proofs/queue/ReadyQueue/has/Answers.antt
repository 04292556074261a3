use Rattle.std.proofs.Common.{◌≡◌, ℕ, ◌+◌, ◌-◌, ◌*◌, ◌≤◌, is_some, None, length, subst, ap, sym, ◌∙◌, arith}
use Rattle.std.proofs.lemmas.List.{get_or_read}
use Rattle.ready_queue.specs.Items.{Queue, item_of}
use Rattle.ready_queue.specs.Representation.{items_at}
use Rattle.ready_queue.proofs.Keep.{item_there, item_zero, item_above}
use Rattle.ready_queue.proofs.queue.ReadyQueue.has.Goals as goal
use Rattle.ready_queue.proofs.queue.ReadyQueue.has.Goals.{then-number-eq0-via-then-number-eq0, then-number-eq0-via-else-number-eq0+then-number-self}

pub returns-then-number-eq0-clause-there : goal.returns-then-number-eq0-clause-there
returns-then-number-eq0-clause-there c =
    let at_zero : c.args.task.0 ≡ 0 → item_of (items_at c.self.inside.places c.self.inside.nodes.items) c.args.task.0 ≡ None =
    λ (e : c.args.task.0 ≡ 0). subst (λ (k : ℕ). item_of (items_at c.self.inside.places c.self.inside.nodes.items) k ≡ None) (sym e) (item_zero c.self.inside.places c.self.inside.nodes.items c.self.invariant) in
    let none : item_of (items_at c.self.inside.places c.self.inside.nodes.items) c.args.task.0 ≡ None =
    elim c.then-number-eq0.branch [
      | then-number-eq0-via-then-number-eq0 w ↦ at_zero (omega arith)
      | then-number-eq0-via-else-number-eq0+then-number-self w ↦ item_above c.self.inside.places c.args.task.0 c.self.inside.nodes.items c.self.invariant (omega arith)
    ] in
    sym (ap is_some none) ∙ ap (λ (q : Queue). is_some (item_of q.items c.args.task.0)) c.self.view_is

pub returns-clause-there : goal.returns-clause-there
returns-clause-there c =
    let some : 1 ≤ c.args.task.0 = omega arith in
    let room : length c.self.inside.nodes.items ≡ 2 * c.self.inside.places = c.self.invariant.room in
    let place : c.args.task.0 ≤ c.self.inside.places = omega arith in
    c.is_some.ensures
    ∙ ap is_some (get_or_read c.self.inside.nodes.items (c.self.inside.places + c.args.task.0 - 1) c.index.result.now (omega arith) c.index.ensures None)
    ∙ ap is_some (sym (item_there c.self.inside.places c.args.task.0 c.self.inside.nodes.items c.self.invariant some))
    ∙ ap (λ (q : Queue). is_some (item_of q.items c.args.task.0)) c.self.view_is
