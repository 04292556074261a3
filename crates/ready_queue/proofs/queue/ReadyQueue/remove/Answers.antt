use Rattle.std.proofs.Common.{List, Option, subst, sym, ap, ◌∙◌, arith}
use Rattle.std.proofs.lemmas.List.{with_items_is}
use Rattle.ready_queue.specs.declared.item.Item.{Item}
use Rattle.ready_queue.specs.Items.{Queue, without}
use Rattle.ready_queue.specs.Representation.{AreNodes, queue_at}
use Rattle.ready_queue.proofs.Keep.{changed, clear_task, kept_remove, items_remove, with_items_of, nothing_out}
use Rattle.ready_queue.proofs.queue.ReadyQueue.remove.Goals as goal

pub invariant_of-self : goal.invariant_of-self
invariant_of-self c =
    let new = changed (clear_task c.args.task.0) c.self.inside.places c.self.inside.nodes.items c.deref_mut.result.now c.put.new.nodes c.deref_mut.ensures.value c.put.auto.nodes c.put.ensures.tree c.put.ensures.leaves in
    subst (AreNodes c.self.inside.places) (sym (with_items_is c.self.inside.nodes c.put.new.nodes (omega (arith, c.put.auto.nodes, c.deref_mut.ensures.len))))
    (kept_remove c.self.inside.places c.args.task.0 c.self.inside.nodes.items c.put.new.nodes c.self.invariant new)

pub returns-then-there-clause-state : goal.returns-then-there-clause-state
returns-then-there-clause-state c =
    let nodes : List (Option Item) = c.self.inside.nodes.items in
    let new = changed (clear_task c.args.task.0) c.self.inside.places c.self.inside.nodes.items c.deref_mut.result.now c.put.new.nodes c.deref_mut.ensures.value c.put.auto.nodes c.put.ensures.tree c.put.ensures.leaves in
    ap (queue_at c.self.inside.places) (with_items_is c.self.inside.nodes c.put.new.nodes (omega (arith, c.put.auto.nodes, c.deref_mut.ensures.len)))
    ∙ ap (with_items_of (queue_at c.self.inside.places nodes)) (items_remove c.self.inside.places c.args.task.0 nodes c.put.new.nodes c.self.invariant new (c.has-there.ensures.some c.if-there.true))
    ∙ ap (λ (q : Queue). with_items_of q (without c.args.task.0 q.items)) c.self.view_is

pub returns-else-there-clause-state : goal.returns-else-there-clause-state
returns-else-there-clause-state c = nothing_out c.args.self.now c.args.task.0 (sym c.if-there.false ∙ c.has-there.ensures.there)
