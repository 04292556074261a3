use Rattle.std.proofs.Common.{◌-◌, List, Option, None, sym, subst, ap, ◌∙◌, arith}
use Rattle.std.proofs.lemmas.List.{length-set}
use Rattle.std.specs.Prelude.{slice_set}
use Rattle.mc_task.specs.TaskSet.{IsIn}
use Rattle.ready_queue.specs.Items.{Queue}
use Rattle.mode_core.specs.declared.pending_jobs.ReleasedJob.{ReleasedJob}
use Rattle.mode_core.specs.Slots.{Slots, ChangesOnly}
use Rattle.mode_core.specs.Representation.{slots_of, AreQueued}
use Rattle.mode_core.proofs.Queued.{queued_end}
use Rattle.mode_core.proofs.Changes.{ended}
use Rattle.mode_core.proofs.pending_jobs.PendingJobs.end.Goals as goal

pub invariant_of-self : goal.invariant_of-self
invariant_of-self c =
    let a = c.self.inside in
    let inside : IsIn a.set.tasks c.args.task.0 = subst (λ (s : Slots). IsIn s.set c.args.task.0) (sym c.self.view_is) c.requires in
    let none : Option ReleasedJob = None in
    let jobs : List (Option ReleasedJob) = slice_set a.jobs.items (c.args.task.0 - 1) none in
    record {
      tasks = c.self.invariant.tasks;
      fits = c.self.invariant.fits;
      slots = length-set a.jobs.items (c.args.task.0 - 1) none ∙ c.self.invariant.slots;
      lines = c.self.invariant.lines;
      budgets = c.self.invariant.budgets;
      discards = c.self.invariant.discards;
      places = ap (λ (q : Queue). q.places) c.remove.ensures.state ∙ c.self.invariant.places;
      queued =
          subst (λ (q : Queue). AreQueued a.set.tasks a.rule a.high jobs q.items) (sym c.remove.ensures.state)
          (queued_end a.set.tasks a.rule a.high a.jobs.items a.queue.items c.args.task.0 c.self.invariant.queued inside (omega (arith, inside.1, c.self.invariant.slots)));
    }

pub returns-clause-slots : goal.returns-clause-slots
returns-clause-slots c =
    let inside : IsIn c.self.inside.set.tasks c.args.task.0 = subst (λ (s : Slots). IsIn s.set c.args.task.0) (sym c.self.view_is) c.requires in
    subst (λ (s : Slots). ChangesOnly s (record (slots_of c.self.inside) { jobs = slice_set c.self.inside.jobs.items (c.args.task.0 - 1) None }) c.args.task.0 None) c.self.view_is (ended (slots_of c.self.inside) c.args.task.0 inside c.self.invariant.slots)
