use Rattle.std.proofs.Common.{◌≡◌, Some, sym, subst, ◌∙◌, arith}
use Rattle.mode_core.specs.Slots.{Slots, job_at, RunsFirst}
use Rattle.mode_core.specs.Representation.{slots_of}
use Rattle.mode_core.proofs.FirstItem.{first_of, read_job, read_runs, not_free}
use Rattle.mode_core.proofs.pending_jobs.PendingJobs.first.Goals as goal

pub overflow_sub-task : goal.overflow_sub-task
overflow_sub-task c =
    let f = first_of (slots_of c.self.inside) c.self.inside.queue.places c.self.inside.queue.items c.least.result c.in_ok-task.task c.self.invariant.places c.least.ensures.items c.self.invariant.queued c.least.ensures.value c.in_ok-task.was in
    f.of_item.inside.0

pub index-requires : goal.index-requires
index-requires c =
    let f = first_of (slots_of c.self.inside) c.self.inside.queue.places c.self.inside.queue.items c.least.result c.in_ok-task.task c.self.invariant.places c.least.ensures.items c.self.invariant.queued c.least.ensures.value c.in_ok-task.was in
    omega (arith, f.of_item.inside.0, f.of_item.inside.1, c.self.invariant.slots, c.self.inside.jobs.ok.0)

pub used-requires : goal.used-requires
used-requires c =
    let f = first_of (slots_of c.self.inside) c.self.inside.queue.places c.self.inside.queue.items c.least.result c.in_ok-task.task c.self.invariant.places c.least.ensures.items c.self.invariant.queued c.least.ensures.value c.in_ok-task.was in
    (f.of_item.inside.0, omega (arith, f.of_item.inside.1, c.self.invariant.lines))

pub unreachable-requires : goal.unreachable-requires
unreachable-requires c =
    let f = first_of (slots_of c.self.inside) c.self.inside.queue.places c.self.inside.queue.items c.least.result c.in_ok-task.task c.self.invariant.places c.least.ensures.items c.self.invariant.queued c.least.ensures.value c.in_ok-task.was in
    not_free (slots_of c.self.inside) c.self.inside.queue.items c.in_ok-task.task.0 f
    (sym c.in-None.is ∙ read_job (slots_of c.self.inside) c.in_ok-task.task.0 f.item c.index.result.now c.self.invariant.slots f.of_item c.index.ensures)

pub returns-clause-first : goal.returns-clause-first
returns-clause-first c =
    let f = first_of (slots_of c.self.inside) c.self.inside.queue.places c.self.inside.queue.items c.least.result c.in_ok-task.task c.self.invariant.places c.least.ensures.items c.self.invariant.queued c.least.ensures.value c.in_ok-task.was in
    let e : Some c.in-Some.job ≡ job_at c.self.inside.jobs.items c.in_ok-task.task.0 =
    sym c.in-Some.is ∙ read_job (slots_of c.self.inside) c.in_ok-task.task.0 f.item c.index.result.now c.self.invariant.slots f.of_item c.index.ensures in
    subst (λ (s : Slots). RunsFirst s c.as_pending.result) c.self.view_is
    (subst (RunsFirst (slots_of c.self.inside)) (sym c.as_pending.ensures)
    (read_runs (slots_of c.self.inside) c.self.inside.queue.items c.in_ok-task.task.0 c.used.result c.in-Some.job c.self.invariant.queued f e c.used.ensures))
