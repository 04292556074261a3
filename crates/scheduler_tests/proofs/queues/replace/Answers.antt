use Rattle.std.proofs.Common.{ap, ◌∙◌}
use Rattle.ready_queue.specs.Items.{Queue, item_of}
use Rattle.ready_queue.proofs.CallerLemmas.{item_of-removed}
use Rattle.scheduler_tests.proofs.queues.replace.Goals as goal

pub insert-requires-clause-new : goal.insert-requires-clause-new
insert-requires-clause-new c =
    ap (λ (q : Queue). item_of q.items c.args.item.task.0) c.remove-there.ensures.state ∙ item_of-removed c.args.item.task.0 c.args.queue.now.items
