use Rattle.std.proofs.Common.{List, length, get_or, ap, ◌∙◌, sym, arith}
use Rattle.trace_judge.specs.declared.queue.Queued.{Queued}
use Rattle.trace_judge.proofs.Queues.{take_one}
use Rattle.trace_judge.proofs.pending_queues.Remaining.pop.Goals as goal

pub returns-then-self-len : goal.returns-then-self-len
returns-then-self-len c =
    sym c.self.view_is
    ∙ (sym c.loop-self.invariant.1
    ∙ take_one c.loop-self.self-inside.queues.now c.loop-self.self-inside.next c.loop-self.self-inside.at _ c.at-queued.result c.loop-self-test.true c.index-self-self.is (omega (arith, c.if-self-len.true, c.len.ensures, ap (λ (q : List Queued). length q) c.index-self-self.is)) (c.at-queued.ensures c.at-queued.result ∙ ap (λ (q : List Queued). get_or q c.loop-self.self-inside.at c.at-queued.result) (sym c.index-self-self.is)))
