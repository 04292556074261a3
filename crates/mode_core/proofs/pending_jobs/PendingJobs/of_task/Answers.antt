use Rattle.std.proofs.Common.{◌≡◌, ◌-◌, ℕ, Some, None, option_map, sym, subst, ap, ◌∙◌, arith}
use Rattle.std.proofs.lemmas.List.{get_or_read}
use Rattle.mc_task.specs.TaskSet.{IsIn}
use Rattle.mode_core.specs.declared.pending.Pending.{Pending}
use Rattle.mode_core.specs.Slots.{Slots, as_pending, ticks_at, waiting}
use Rattle.mode_core.specs.Representation.{slots_of}
use Rattle.mode_core.proofs.pending_jobs.PendingJobs.of_task.Goals as goal

pub overflow_sub-task : goal.overflow_sub-task
overflow_sub-task c =
    let inside : IsIn c.self.inside.set.tasks c.args.task.0 = subst (λ (s : Slots). IsIn s.set c.args.task.0) (sym c.self.view_is) c.requires in
    inside.0

pub index-requires : goal.index-requires
index-requires c =
    let inside : IsIn c.self.inside.set.tasks c.args.task.0 = subst (λ (s : Slots). IsIn s.set c.args.task.0) (sym c.self.view_is) c.requires in
    omega (arith, inside.0, inside.1, c.self.invariant.slots, c.self.inside.jobs.ok.0)

pub used-requires : goal.used-requires
used-requires c =
    let inside : IsIn c.self.inside.set.tasks c.args.task.0 = subst (λ (s : Slots). IsIn s.set c.args.task.0) (sym c.self.view_is) c.requires in
    (inside.0, omega (arith, inside.1, c.self.invariant.lines))

pub returns-in-Some : goal.returns-in-Some
returns-in-Some c =
    let inside : IsIn c.self.inside.set.tasks c.args.task.0 = subst (λ (s : Slots). IsIn s.set c.args.task.0) (sym c.self.view_is) c.requires in
    let s : Slots = slots_of c.self.inside in
    let read = get_or_read s.jobs (c.args.task.0 - 1) c.index.result.now (omega (arith, inside.0, inside.1, c.self.invariant.slots)) c.index.ensures None in
    subst (λ (x : Slots). Some c.as_pending.result ≡ waiting x c.args.task.0) c.self.view_is
    (ap (λ (p : Pending). Some p) (c.as_pending.ensures ∙ ap (λ (n : ℕ). as_pending c.args.task.0 n c.in-Some.job) c.used.ensures)
    ∙ ap (option_map (as_pending c.args.task.0 (ticks_at s c.args.task.0))) (sym c.in-Some.is ∙ read))

pub returns-in-None : goal.returns-in-None
returns-in-None c =
    let inside : IsIn c.self.inside.set.tasks c.args.task.0 = subst (λ (s : Slots). IsIn s.set c.args.task.0) (sym c.self.view_is) c.requires in
    let s : Slots = slots_of c.self.inside in
    let read = get_or_read s.jobs (c.args.task.0 - 1) c.index.result.now (omega (arith, inside.0, inside.1, c.self.invariant.slots)) c.index.ensures None in
    subst (λ (x : Slots). None ≡ waiting x c.args.task.0) c.self.view_is
    (ap (option_map (as_pending c.args.task.0 (ticks_at s c.args.task.0))) (sym c.in-None.is ∙ read))
