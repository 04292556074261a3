use Rattle.std.proofs.Common.{◌≡◌, ℕ, ◌+◌, ◌-◌, ◌≤◌, Bool, cond, List, length, set, get_or, sym, ap, subst, ◌∙◌, arith}
use Rattle.std.proofs.lemmas.List.{set-get_or}
use Rattle.mc_model.specs.Sums.{total}
use Rattle.trace_judge.specs.declared.queue.Queued.{Queued}
use Rattle.trace_judge.specs.declared.pending_queues.Pending.{Pending}
use Rattle.trace_judge.specs.declared.pending_queues.Rank.{Rank}
use Rattle.trace_judge.specs.Entries.{PendingEntries, HasQueue, IsMore, entries_of}
use Rattle.trace_judge.specs.Queues.{AreQueues, head_key, entries_from, pending_entries}
use Rattle.trace_judge.proofs.Queues.{place_inside, queues_set, queues_same, more_set, on_err}
use Rattle.trace_judge.proofs.Switched.{has_entries}
use Rattle.trace_judge.proofs.pending_queues.PendingQueues.put.Goals as goal

-- a job of this rank
abbrev a_job : Rank → Pending → Queued
a_job rank p = record { key = rank.key; count = rank.job.count; pending = p }

-- with one more job in its queue there is one more entry
one_more : (h : PendingEntries) (qs : List (List Queued)) (rank : Rank) (p : Pending) (queue new : List Queued) → pending_entries qs ≡ h → HasQueue h rank.job.task.0 → queue ≡ get_or qs (rank.job.task.0 - 1) queue →
    ((f : Queued → ℕ) → total f new ≡ f (a_job rank p) + total f queue) → IsMore (entries_from 1 (set qs (rank.job.task.0 - 1) new)) (rank, p) h.entries
one_more h qs rank p queue new view has here jobs f =
    more_set rank.job.task.0 qs (rank.job.task.0 - 1) new queue (a_job rank p) (omega (arith, has.0)) (place_inside h qs rank.job.task.0 view has)
    (λ g. jobs g ∙ ap (λ (q : List Queued). g (a_job rank p) + total g q) here) f
    ∙ ap (λ (x : PendingEntries). f (rank, p) + total f x.entries) view

pub invariant_of-self : goal.invariant_of-self
invariant_of-self c =
    let i : ℕ = c.args.rank.job.task.0 - 1 in
    let same : set c.self.inside.queues.items i c.push.new.self ≡ c.self.inside.queues.items =
    ap (λ (q : List Queued). set c.self.inside.queues.items i q) (c.in_err-is_first.ensures.unchanged ∙ c.index_mut-queue.ensures.value) ∙ set-get_or c.self.inside.queues.items i _ in
    subst (λ (qs : List (List Queued)). AreQueues qs c.self.inside.heads) (sym same) c.self.invariant

pub invariant_of-self-then-not-is_first : goal.invariant_of-self-then-not-is_first
invariant_of-self-then-not-is_first c =
    let queue : List Queued = c.index_mut-queue.result.now in
    queues_same c.self.inside.queues.items c.self.inside.heads (c.args.rank.job.task.0 - 1) c.push.new.self queue c.self.invariant c.in_ok-is_first.ensures.ordered
    (c.in_ok-is_first.ensures.head ∙ (ap (λ (b : Bool). cond b c.args.rank.key (head_key queue)) c.if-not-is_first.true ∙ ap head_key c.index_mut-queue.ensures.value))

pub returns-then-not-is_first-clause-entries : goal.returns-then-not-is_first-clause-entries
returns-then-not-is_first-clause-entries c =
    one_more c.args.self.now c.self.inside.queues.items c.args.rank c.args.pending c.index_mut-queue.result.now c.push.new.self c.self.view_is c.requires.task c.index_mut-queue.ensures.value c.in_ok-is_first.ensures.jobs

pub invariant_of-self-2 : goal.invariant_of-self-2
invariant_of-self-2 c =
    let head = c.in_ok-is_first.ensures.head ∙ ap (λ (b : Bool). cond b c.args.rank.key (head_key c.index_mut-queue.result.now)) c.if-not-is_first.false in
    queues_set c.self.inside.queues.items c.self.inside.heads c.lower.new.self
    (c.args.rank.job.task.0 - 1) c.args.rank.key c.push.new.self c.self.invariant c.in_ok-is_first.ensures.ordered c.lower.ensures (sym head)

pub returns-clause-entries : goal.returns-clause-entries
returns-clause-entries c =
    one_more c.args.self.now c.self.inside.queues.items c.args.rank c.args.pending c.index_mut-queue.result.now c.push.new.self c.self.view_is c.requires.task c.index_mut-queue.ensures.value c.in_ok-is_first.ensures.jobs

pub returns-in_err-is_first-clause-memory : goal.returns-in_err-is_first-clause-memory
returns-in_err-is_first-clause-memory c =
    let n : ℕ = c.args.rank.job.task.0 in
    let qs : List (List Queued) = c.self.inside.queues.items in
    let queue : List Queued = c.index_mut-queue.result.now in
    let inside = place_inside c.args.self.now qs n c.self.view_is c.requires.task in
    let many : 2 ≤ entries_of n (entries_from 1 qs) =
    omega (arith, c.in_err-is_first.ensures.memory, ap length c.index_mut-queue.ensures.value, has_entries n 1 qs (n - 1) queue (omega (arith, c.requires.task.0)) inside) in
    on_err c.from_residual.result (subst (λ (h : PendingEntries). 2 ≤ entries_of n h.entries) c.self.view_is many)
