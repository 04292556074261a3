use Rattle.std.proofs.Common.{[], subst, sym, ap, ◌∙◌}
use Rattle.ready_queue.specs.Representation.{AreNodes, items_at}
use Rattle.ready_queue.proofs.Keep.{kept_new, items_new, with_items_of}
use Rattle.ready_queue.proofs.queue.ReadyQueue.new.Goals as goal

pub invariant_of-result : goal.invariant_of-result
invariant_of-result c = subst (AreNodes c.args.places) (sym c.in_ok-nodes.ensures) (kept_new c.args.places c.requires.some c.requires.few)

pub returns : goal.returns
returns c = ap (with_items_of (record { places = c.args.places; items = [] })) (ap (items_at c.args.places) c.in_ok-nodes.ensures ∙ items_new c.args.places)
