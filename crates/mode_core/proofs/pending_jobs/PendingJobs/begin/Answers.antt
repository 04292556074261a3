use Rattle.std.proofs.Common.{◌≡◌, ◌-◌, List, Option, None, Some, length, sym, subst, ap, ◌∙◌, arith}
use Rattle.std.proofs.lemmas.List.{length-set}
use Rattle.std.specs.Prelude.{slice_set}
use Rattle.mc_task.specs.TaskSet.{IsIn}
use Rattle.budget_ledger.specs.Ledger.{Ledger}
use Rattle.ready_queue.specs.declared.item.Item.{Item}
use Rattle.ready_queue.specs.Items.{Queue, with_item}
use Rattle.mode_core.specs.declared.pending.Pending.{Pending}
use Rattle.mode_core.specs.declared.pending_jobs.ReleasedJob.{ReleasedJob}
use Rattle.mode_core.specs.declared.pending_jobs.PendingJobs.TheInside.{Inside}
use Rattle.mode_core.specs.Slots.{Slots, job_at, ticks_at, as_pending, waiting, ChangesOnly}
use Rattle.mode_core.specs.Representation.{slots_of, AreQueued}
use Rattle.mode_core.proofs.Options.{no_map}
use Rattle.mode_core.proofs.Queued.{queued_begin}
use Rattle.mode_core.proofs.Changes.{begun}
use Rattle.mode_core.proofs.pending_jobs.PendingJobs.begin.Goals as goal

-- the slots with these jobs and this ledger
abbrev with_line : Inside → List (Option ReleasedJob) → Ledger → Slots
with_line a jobs l = record (slots_of a) { jobs = jobs; ticks = l.ticks }

pub invariant_of-self : goal.invariant_of-self
invariant_of-self c =
    let a = c.self.inside in
    let k = c.args.job.task.0 in
    let inside : IsIn a.set.tasks k = subst (λ (s : Slots). IsIn s.set k) (sym c.self.view_is) c.requires.in_set in
    let none = subst (λ (s : Slots). waiting s k ≡ None) (sym c.self.view_is) c.requires.free in
    let free : job_at a.jobs.items k ≡ None = no_map (as_pending k (ticks_at (slots_of a) k)) (job_at a.jobs.items k) none in
    let j : ReleasedJob = record { count = c.args.job.count; release = c.args.release } in
    let jobs : List (Option ReleasedJob) = slice_set a.jobs.items (k - 1) (Some j) in
    record {
      tasks = c.self.invariant.tasks;
      fits = c.self.invariant.fits;
      slots = length-set a.jobs.items (k - 1) (Some j) ∙ c.self.invariant.slots;
      lines = ap (λ (l : Ledger). length l.ticks) c.start.ensures ∙ (length-set a.used.ticks (k - 1) 0 ∙ c.self.invariant.lines);
      budgets = ap (λ (l : Ledger). l.budgets) c.start.ensures ∙ c.self.invariant.budgets;
      discards = c.self.invariant.discards;
      places = ap (λ (q : Queue). q.places) c.insert.ensures ∙ c.self.invariant.places;
      queued =
          subst (λ (q : Queue). AreQueued a.set.tasks a.rule a.high jobs q.items) (sym c.insert.ensures)
          (subst (λ (i : Item). AreQueued a.set.tasks a.rule a.high jobs (with_item i a.queue.items)) (sym c.item.ensures)
          (queued_begin a.set.tasks a.rule a.high a.jobs.items a.queue.items k j c.self.invariant.queued inside (omega (arith, inside.1, c.self.invariant.slots)) free));
    }

pub returns-clause-state : goal.returns-clause-state
returns-clause-state c =
    let a = c.self.inside in
    let k = c.args.job.task.0 in
    let inside : IsIn a.set.tasks k = subst (λ (s : Slots). IsIn s.set k) (sym c.self.view_is) c.requires.in_set in
    let entry : Pending = record { job = c.args.job; release = c.args.release; used = 0 } in
    let jobs : List (Option ReleasedJob) = slice_set a.jobs.items (k - 1) (Some (record { count = c.args.job.count; release = c.args.release })) in
    subst (λ (s : Slots). ChangesOnly s (with_line a jobs c.start.new.self) k (Some entry)) c.self.view_is
    (subst (λ (l : Ledger). ChangesOnly (slots_of a) (with_line a jobs l) k (Some entry)) (sym c.start.ensures)
    (begun (slots_of a) c.args.job c.args.release inside c.self.invariant.slots c.self.invariant.lines))
