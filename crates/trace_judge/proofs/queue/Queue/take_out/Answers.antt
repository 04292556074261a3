use Rattle.std.proofs.Common.{◌≡◌, ◌∙◌, sym, ap, subst, List, [], arith}
use Rattle.trace_judge.specs.Firsts.{remove_first}
use Rattle.trace_judge.specs.Queues.{has_count, IsQueue}
use Rattle.trace_judge.specs.declared.queue.Queued.{Queued}
use Rattle.trace_judge.proofs.Firsts.{remove_at, edit_none}
use Rattle.trace_judge.proofs.Ordered.{ordered_remove}
use Rattle.trace_judge.proofs.queue.Queue.take_out.Goals as goal

pub returns-in-Some-clause-jobs : goal.returns-in-Some-clause-jobs
returns-in-Some-clause-jobs c =
    c.take_at.ensures.items ∙ (sym (remove_at (has_count c.args.count) c.self.inside.jobs.items c.in-Some.position c.in-Some.ensures.first)
    ∙ ap (remove_first (has_count c.args.count)) c.self.view_is)

pub returns-in-Some-clause-ordered : goal.returns-in-Some-clause-ordered
returns-in-Some-clause-ordered c =
    subst IsQueue (sym (returns-in-Some-clause-jobs c)) (ordered_remove (has_count c.args.count) c.args.self.now (subst IsQueue c.self.view_is c.self.invariant.0))

pub invariant_of-self : goal.invariant_of-self
invariant_of-self c = (returns-in-Some-clause-ordered c, omega (arith, c.self.invariant.1, c.take_at.ensures.capacity))

pub returns-in_default-clause-jobs : goal.returns-in_default-clause-jobs
returns-in_default-clause-jobs c =
    sym (subst (λ (qs : List Queued). remove_first (has_count c.args.count) qs ≡ qs) c.self.view_is
    (edit_none (has_count c.args.count) (λ q. []) c.self.inside.jobs.items c.in_default.ensures.none))
