use Rattle.std.proofs.Common.{Some, ◌∙◌, sym, ap}
use Rattle.std.specs.Prelude.{find}
use Rattle.trace_judge.specs.declared.queue.Queued.{Queued}
use Rattle.trace_judge.specs.Queues.{has_count}
use Rattle.trace_judge.proofs.Firsts.{find_at, find_none}
use Rattle.trace_judge.proofs.queue.Queue.find.Goals as goal

pub returns-in_err-position : goal.returns-in_err-position
returns-in_err-position c =
    c.from_residual.ensures ∙ (sym (find_none (has_count c.args.count) c.self.inside.jobs.items c.in_err-position.ensures.none) ∙ ap (find (has_count c.args.count)) c.self.view_is)

pub returns : goal.returns
returns c =
    ap (λ (q : Queued). Some q) c.index-2.ensures
    ∙ (sym (find_at (has_count c.args.count) c.self.inside.jobs.items c.in_ok-position.position c.index-2.result.now c.in_ok-position.ensures.first) ∙ ap (find (has_count c.args.count)) c.self.view_is)
