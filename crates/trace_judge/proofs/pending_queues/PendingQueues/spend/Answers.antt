use Rattle.std.proofs.Common.{◌-◌, ℕ, List, [], ◌∷◌, set, refl, ap, ◌∙◌, arith}
use Rattle.trace_judge.specs.declared.queue.Queued.{Queued}
use Rattle.trace_judge.specs.Firsts.{change_first}
use Rattle.trace_judge.specs.Entries.{PendingEntries, is_of, spent_entry}
use Rattle.trace_judge.specs.Queues.{head_key, has_count, spent_job, entries_from}
use Rattle.trace_judge.proofs.Ordered.{spent_head}
use Rattle.trace_judge.proofs.Queues.{place_inside, queues_same, edited_own}
use Rattle.trace_judge.proofs.pending_queues.PendingQueues.spend.Goals as goal

pub invariant_of-self : goal.invariant_of-self
invariant_of-self c =
    queues_same c.self.inside.queues.items c.self.inside.heads (c.args.job.task.0 - 1) c.spend.new.self c.index_mut.result.now c.self.invariant c.spend.ensures.ordered
    (ap head_key c.spend.ensures.jobs ∙ (spent_head c.args.ticks (has_count c.args.job.count) c.index_mut.result.now ∙ ap head_key c.index_mut.ensures.value))

pub returns-clause-entries : goal.returns-clause-entries
returns-clause-entries c =
    let qs : List (List Queued) = c.self.inside.queues.items in
    let i : ℕ = c.args.job.task.0 - 1 in
    let new = c.spend.ensures.jobs ∙ ap (change_first (has_count c.args.job.count) (spent_job c.args.ticks)) c.index_mut.ensures.value in
    ap (λ (q : List Queued). entries_from 1 (set qs i q)) new
    ∙ (edited_own c.args.job (λ q. spent_job c.args.ticks q ∷ []) (λ e. spent_entry c.args.ticks e ∷ []) (λ x. refl) qs i c.index_mut.result.now
    (omega (arith, c.requires.0))
    (place_inside c.args.self.now qs c.args.job.task.0 c.self.view_is c.requires)
    ∙ ap (λ (h : PendingEntries). change_first (is_of c.args.job) (spent_entry c.args.ticks) h.entries) c.self.view_is)
