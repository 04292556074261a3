use Rattle.std.proofs.Common.{◌≡◌, ◌≤◌, List, Option, None, subst, sym, ap, ◌∙◌, arith}
use Rattle.std.proofs.lemmas.List.{with_items_is}
use Rattle.ready_queue.specs.declared.item.Item.{Item}
use Rattle.ready_queue.specs.Items.{Queue, item_of, with_item}
use Rattle.ready_queue.specs.Representation.{AreNodes, queue_at}
use Rattle.ready_queue.proofs.Keep.{changed, put_item, kept_insert, items_insert, with_items_of}
use Rattle.ready_queue.proofs.queue.ReadyQueue.insert.Goals as goal

pub invariant_of-self : goal.invariant_of-self
invariant_of-self c =
    let new = changed (put_item c.args.item) c.self.inside.places c.self.inside.nodes.items c.deref_mut.result.now c.put.new.nodes c.deref_mut.ensures.value c.put.auto.nodes c.put.ensures.tree c.put.ensures.leaves in
    subst (AreNodes c.self.inside.places) (sym (with_items_is c.self.inside.nodes c.put.new.nodes (omega (arith, c.put.auto.nodes, c.deref_mut.ensures.len))))
    (kept_insert c.self.inside.places c.args.item c.self.inside.nodes.items c.put.new.nodes c.self.invariant new c.requires.some)

pub returns : goal.returns
returns c =
    let nodes : List (Option Item) = c.self.inside.nodes.items in
    let new = changed (put_item c.args.item) c.self.inside.places c.self.inside.nodes.items c.deref_mut.result.now c.put.new.nodes c.deref_mut.ensures.value c.put.auto.nodes c.put.ensures.tree c.put.ensures.leaves in
    let place = subst (λ (q : Queue). c.args.item.task.0 ≤ q.places) (sym c.self.view_is) c.requires.place in
    let free = subst (λ (q : Queue). item_of q.items c.args.item.task.0 ≡ None) (sym c.self.view_is) c.requires.new in
    ap (queue_at c.self.inside.places) (with_items_is c.self.inside.nodes c.put.new.nodes (omega (arith, c.put.auto.nodes, c.deref_mut.ensures.len)))
    ∙ ap (with_items_of (queue_at c.self.inside.places nodes)) (items_insert c.self.inside.places c.args.item nodes c.put.new.nodes c.self.invariant new c.requires.some place free)
    ∙ ap (λ (q : Queue). with_items_of q (with_item c.args.item q.items)) c.self.view_is
