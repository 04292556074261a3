use Rattle.std.proofs.Common.{◌≡◌, ℕ, ◌≤◌, ◌^◌, List, Option, IfSome, option_map, subst, sym, ◌∙◌, arith}
use Rattle.mc_task.specs.TaskSet.{IsIn}
use Rattle.mc_model.specs.declared.row.Row.{Row}
use Rattle.mc_model.specs.Pending.{pending}
use Rattle.mode_core.specs.declared.pending.Pending.{Pending}
use Rattle.mode_core.specs.Entries.{entry, job_of}
use Rattle.mode_core.specs.Slots.{Slots}
use Rattle.mode_core.specs.Written.{Written}
use Rattle.mode_core.proofs.Opened.{clock_small}
use Rattle.mode_core.proofs.FirstJob.{released_by}
use Rattle.mode_core.proofs.schedule_log.ScheduleLog.of_task.Goals as goal

pub of_task-requires : goal.of_task-requires
of_task-requires g c = subst (λ (w : Written). IsIn w.set c.args.task.0) (sym c.self.view_is) c.requires

pub returns-clause-value : goal.returns-clause-value
returns-clause-value g c =
    let k : ℕ = c.args.task.0 in
    subst (λ (w : Written). c.of_task.result ≡ option_map (entry w.rows) (job_of k (pending w.set w.rows))) c.self.view_is
    (c.of_task.ensures ∙ c.self.invariant.tally.slots_are k (subst (λ (w : Written). IsIn w.set k) (sym c.self.view_is) c.requires))

pub returns-clause-released : goal.returns-clause-released
returns-clause-released g c =
    let h : List Row = g.R.Recorder.rows c.self.inside.recorder in
    let s : Slots = c.self.inside.pending_jobs in
    let k : ℕ = c.args.task.0 in
    let small = clock_small h c.self.inside _ _ c.self.invariant in
    let is = c.of_task.ensures ∙ c.self.invariant.tally.slots_are k (subst (λ (w : Written). IsIn w.set k) (sym c.self.view_is) c.requires) in
    subst (λ (o : Option Pending). IfSome o (λ (p : Pending). p.release ≤ 2 ^ 62)) (sym is)
    (released_by s.set s.rule h (2 ^ 62) k c.self.invariant.tasks.each c.self.invariant.tally.legal (omega (arith, small, c.self.invariant.tally.clock_is)) (job_of k (pending s.set h)) (λ x e. e))
