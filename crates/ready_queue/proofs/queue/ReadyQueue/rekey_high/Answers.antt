use Rattle.std.proofs.Common.{List, Option, map, filter, subst, sym, ap, ◌∙◌, arith}
use Rattle.std.proofs.lemmas.List.{with_items_is}
use Rattle.ready_queue.specs.declared.item.Item.{Item}
use Rattle.ready_queue.specs.Items.{Queue, by_real}
use Rattle.ready_queue.specs.Tree.{rekeyed}
use Rattle.ready_queue.specs.Representation.{AreNodes, queue_at}
use Rattle.ready_queue.proofs.Keep.{changed, kept_rekey, items_rekey, with_items_of}
use Rattle.ready_queue.proofs.queue.ReadyQueue.rekey_high.Goals as goal

pub invariant_of-self : goal.invariant_of-self
invariant_of-self c =
    let new = changed (map rekeyed) c.self.inside.places c.self.inside.nodes.items c.deref_mut.result.now c.rekey.new.nodes c.deref_mut.ensures.value c.rekey.auto.nodes c.rekey.ensures.tree c.rekey.ensures.leaves in
    subst (AreNodes c.self.inside.places) (sym (with_items_is c.self.inside.nodes c.rekey.new.nodes (omega (arith, c.rekey.auto.nodes, c.deref_mut.ensures.len))))
    (kept_rekey c.self.inside.places c.self.inside.nodes.items c.rekey.new.nodes c.self.invariant new)

pub returns : goal.returns
returns c =
    let nodes : List (Option Item) = c.self.inside.nodes.items in
    let new = changed (map rekeyed) c.self.inside.places c.self.inside.nodes.items c.deref_mut.result.now c.rekey.new.nodes c.deref_mut.ensures.value c.rekey.auto.nodes c.rekey.ensures.tree c.rekey.ensures.leaves in
    ap (queue_at c.self.inside.places) (with_items_is c.self.inside.nodes c.rekey.new.nodes (omega (arith, c.rekey.auto.nodes, c.deref_mut.ensures.len)))
    ∙ ap (with_items_of (queue_at c.self.inside.places nodes)) (items_rekey c.self.inside.places nodes c.rekey.new.nodes new)
    ∙ ap (λ (q : Queue). with_items_of q (map by_real (filter (λ (i : Item). i.high) q.items))) c.self.view_is
