use Rattle.std.proofs.Common.{ℕ, ◌-◌, List, [], set, refl, ap, ◌∙◌, arith}
use Rattle.trace_judge.specs.declared.queue.Queued.{Queued}
use Rattle.trace_judge.specs.Firsts.{remove_first}
use Rattle.trace_judge.specs.Entries.{PendingEntries, is_of}
use Rattle.trace_judge.specs.Queues.{has_count, entries_from}
use Rattle.trace_judge.proofs.Queues.{place_inside, queues_set, edited_own}
use Rattle.trace_judge.proofs.pending_queues.PendingQueues.take_out.Goals as goal

pub invariant_of-self : goal.invariant_of-self
invariant_of-self c =
    queues_set c.self.inside.queues.items c.self.inside.heads c.set.new.self
    (c.args.job.task.0 - 1) _ c.take_out.new.self c.self.invariant c.take_out.ensures.ordered c.set.ensures c.head_key.ensures

pub returns-clause-entries : goal.returns-clause-entries
returns-clause-entries c =
    let qs : List (List Queued) = c.self.inside.queues.items in
    let i : ℕ = c.args.job.task.0 - 1 in
    let new = c.take_out.ensures.jobs ∙ ap (remove_first (has_count c.args.job.count)) c.index_mut-queue.ensures.value in
    ap (λ (q : List Queued). entries_from 1 (set qs i q)) new
    ∙ (edited_own c.args.job (λ q. []) (λ e. []) (λ x. refl) qs i c.index_mut-queue.result.now (omega (arith, c.requires.0))
    (place_inside c.args.self.now qs c.args.job.task.0 c.self.view_is c.requires)
    ∙ ap (λ (h : PendingEntries). remove_first (is_of c.args.job) h.entries) c.self.view_is)
