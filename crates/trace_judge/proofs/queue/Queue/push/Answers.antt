use Rattle.std.proofs.Common.{◌+◌, ◌∙◌, sym, ap, subst, List, arith}
use Rattle.mc_model.specs.Sums.{total}
use Rattle.trace_judge.specs.Queues.{IsQueue}
use Rattle.trace_judge.specs.declared.queue.Queued.{Queued}
use Rattle.trace_judge.proofs.Ordered.{ordered_insert, total_insert}
use Rattle.trace_judge.proofs.queue.Queue.push.Goals as goal

pub invariant_of-self : goal.invariant_of-self
invariant_of-self c = (subst IsQueue (sym c.in_err-put_at.ensures.unchanged) c.self.invariant.0, omega (arith, c.self.invariant.1, c.put_at.ensures.capacity))

pub invariant_of-self-2 : goal.invariant_of-self-2
invariant_of-self-2 c = (
  subst IsQueue (sym c.in_ok-put_at.ensures.items) (ordered_insert c.self.inside.jobs.items c.position_for-position.result c.args.job c.self.invariant.0 c.requires c.position_for-position.ensures),
  omega (arith, c.self.invariant.1, c.put_at.ensures.capacity),
)

pub returns-clause-jobs : goal.returns-clause-jobs
returns-clause-jobs c f =
    ap (total f) c.in_ok-put_at.ensures.items ∙ (total_insert f c.self.inside.jobs.items c.position_for-position.result c.args.job ∙ ap (λ (qs : List Queued). f c.args.job + total f qs) c.self.view_is)

pub returns-clause-ordered : goal.returns-clause-ordered
returns-clause-ordered c = (invariant_of-self-2 c).0
