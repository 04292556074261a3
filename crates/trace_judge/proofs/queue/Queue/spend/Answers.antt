use Rattle.std.proofs.Common.{◌≡◌, ◌+◌, ◌-◌, ◌^◌, min, ℕ, ◌∙◌, sym, ap, subst, List, [], ◌∷◌, set, get_or}
use Rattle.std.proofs.lemmas.List.{get_or_read}
use Rattle.trace_judge.specs.Firsts.{change_first}
use Rattle.trace_judge.specs.Queues.{has_count, spent_job, IsQueue}
use Rattle.trace_judge.specs.declared.queue.Queued.{Queued}
use Rattle.trace_judge.proofs.Firsts.{change_at, edit_none}
use Rattle.trace_judge.proofs.Ordered.{ordered_spent}
use Rattle.trace_judge.proofs.queue.Queue.spend.Goals as goal

-- a job with this number of ticks
abbrev with_used : Queued → ℕ → Queued
with_used q u = record { key = q.key; count = q.count; pending = record { release = q.pending.release; used = u; rows_before = q.pending.rows_before } }

pub returns-in-Some-clause-jobs : goal.returns-in-Some-clause-jobs
returns-in-Some-clause-jobs c =
    let qs : List Queued = c.self.inside.jobs.items in
    let q : Queued = c.index_mut.result.now in
    let read : q ≡ get_or qs c.in-Some.position q = c.index_mut.ensures.value in
    let same : c.index.result.now ≡ q = get_or_read qs c.in-Some.position c.index.result.now c.in-Some.ensures.first.inside c.index.ensures q ∙ sym read in
    let used : c.saturating_add.result ≡ min (q.pending.used + c.args.ticks) (2 ^ 64 - 1) =
    c.saturating_add.ensures ∙ (ap (λ (n : ℕ). min (c.index.result.now.pending.used + n) (2 ^ 64 - 1)) c.from.ensures ∙ ap (λ (r : Queued). min (r.pending.used + c.args.ticks) (2 ^ 64 - 1)) same) in
    ap (λ (u : ℕ). set qs c.in-Some.position (with_used q u)) used
    ∙ (ap (λ (r : Queued). set qs c.in-Some.position (spent_job c.args.ticks r)) read
    ∙ (sym (change_at (has_count c.args.count) (spent_job c.args.ticks) qs c.in-Some.position q c.in-Some.ensures.first) ∙ ap (change_first (has_count c.args.count) (spent_job c.args.ticks)) c.self.view_is))

pub returns-in-Some-clause-ordered : goal.returns-in-Some-clause-ordered
returns-in-Some-clause-ordered c =
    subst IsQueue (sym (returns-in-Some-clause-jobs c)) (ordered_spent c.args.ticks (has_count c.args.count) c.args.self.now (subst IsQueue c.self.view_is c.self.invariant.0))

pub invariant_of-self : goal.invariant_of-self
invariant_of-self c = (returns-in-Some-clause-ordered c, c.self.invariant.1)

pub returns-in_default-clause-jobs : goal.returns-in_default-clause-jobs
returns-in_default-clause-jobs c =
    sym (subst (λ (qs : List Queued). change_first (has_count c.args.count) (spent_job c.args.ticks) qs ≡ qs) c.self.view_is
    (edit_none (has_count c.args.count) (λ q. spent_job c.args.ticks q ∷ []) c.self.inside.jobs.items c.in_default.ensures.none))
