use Rattle.std.proofs.Common.{◌≡◌, ◌-◌, ℕ, Some, None, option_map, sym, subst, ap, ◌∙◌, arith}
use Rattle.std.proofs.lemmas.List.{get_or_read}
use Rattle.mc_task.specs.TaskSet.{IsIn}
use Rattle.mc_task.specs.declared.task.JobId.{JobId}
use Rattle.mode_core.specs.Slots.{Slots, discarded_at}
use Rattle.mode_core.specs.Representation.{slots_of}
use Rattle.mode_core.proofs.pending_jobs.PendingJobs.discarded.Goals as goal

-- the job of task number k with this number
abbrev of_number : ℕ → ℕ → JobId
of_number k n = record { task = record { 0 = k }; count = n }

pub overflow_sub-task : goal.overflow_sub-task
overflow_sub-task c =
    let inside : IsIn c.self.inside.set.tasks c.args.task.0 = subst (λ (s : Slots). IsIn s.set c.args.task.0) (sym c.self.view_is) c.requires in
    inside.0

pub index-requires : goal.index-requires
index-requires c =
    let inside : IsIn c.self.inside.set.tasks c.args.task.0 = subst (λ (s : Slots). IsIn s.set c.args.task.0) (sym c.self.view_is) c.requires in
    omega (arith, inside.0, inside.1, c.self.invariant.discards, c.self.inside.discarded.ok.0)

pub returns-in-Some : goal.returns-in-Some
returns-in-Some c =
    let inside : IsIn c.self.inside.set.tasks c.args.task.0 = subst (λ (s : Slots). IsIn s.set c.args.task.0) (sym c.self.view_is) c.requires in
    let s : Slots = slots_of c.self.inside in
    let read = get_or_read s.discarded (c.args.task.0 - 1) c.index.result.now (omega (arith, inside.0, inside.1, c.self.invariant.discards)) c.index.ensures None in
    subst (λ (x : Slots). Some (record { task = c.args.task; count = c.in-Some.count }) ≡ discarded_at x c.args.task.0) c.self.view_is
    (ap (option_map (of_number c.args.task.0)) (sym c.in-Some.is ∙ read))

pub returns-in-None : goal.returns-in-None
returns-in-None c =
    let inside : IsIn c.self.inside.set.tasks c.args.task.0 = subst (λ (s : Slots). IsIn s.set c.args.task.0) (sym c.self.view_is) c.requires in
    let s : Slots = slots_of c.self.inside in
    let read = get_or_read s.discarded (c.args.task.0 - 1) c.index.result.now (omega (arith, inside.0, inside.1, c.self.invariant.discards)) c.index.ensures None in
    subst (λ (x : Slots). None ≡ discarded_at x c.args.task.0) c.self.view_is
    (ap (option_map (of_number c.args.task.0)) (sym c.in-None.is ∙ read))
