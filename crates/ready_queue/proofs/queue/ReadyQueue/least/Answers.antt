use Rattle.std.proofs.Common.{◌≡◌, ◌≤◌, ◌*◌, None, length, subst, ap, ◌∙◌, arith}
use Rattle.std.proofs.lemmas.List.{get_or_read}
use Rattle.ready_queue.specs.Items.{Queue, least, AreItems}
use Rattle.ready_queue.proofs.Keep.{kept_items}
use Rattle.ready_queue.proofs.Firsts.{task_in, root_is_least, first_if_some, none_iff}
use Rattle.ready_queue.proofs.queue.ReadyQueue.least.Goals as goal

pub returns-clause-value : goal.returns-clause-value
returns-clause-value c =
    let some : 1 ≤ c.self.inside.places = c.self.invariant.some in
    let room : length c.self.inside.nodes.items ≡ 2 * c.self.inside.places = c.self.invariant.room in
    c.task_of.ensures
    ∙ ap task_in (get_or_read c.self.inside.nodes.items 1 c.index.result.now (omega arith) c.index.ensures None)
    ∙ root_is_least c.self.inside.nodes.items c.self.inside.places room some c.self.invariant.tree
    ∙ ap (λ (q : Queue). task_in (least q.items)) c.self.view_is

pub returns-clause-first : goal.returns-clause-first
returns-clause-first c = first_if_some c.args.self.now.items c.task_of.result (returns-clause-value c)

pub returns-clause-none : goal.returns-clause-none
returns-clause-none c = none_iff c.args.self.now.items c.task_of.result (returns-clause-value c)

pub returns-clause-items : goal.returns-clause-items
returns-clause-items c =
    subst (λ (q : Queue). AreItems q.places q.items) c.self.view_is (kept_items c.self.inside.places c.self.inside.nodes.items c.self.invariant)
