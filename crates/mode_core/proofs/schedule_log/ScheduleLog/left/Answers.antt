use Rattle.std.proofs.Common.{◌≡◌, ℕ, Bool, subst, sym, ap₂, ◌∙◌}
use Rattle.mc_task.specs.TaskSet.{task_at}
use Rattle.mc_model.specs.Rows.{used}
use Rattle.mode_core.specs.Slots.{Slots}
use Rattle.mode_core.specs.Written.{Written}
use Rattle.mode_core.specs.Runs.{left_of, may_switch, ticks_left}
use Rattle.mode_core.proofs.schedule_log.ScheduleLog.left.Goals as goal

pub returns : goal.returns
returns g c =
    let s : Slots = c.self.inside.pending_jobs in
    let k : ℕ = c.args.job.now.job.task.0 in
    let u = subst (λ (w : Written). c.args.job.now.used ≡ used w.rows c.args.job.now.job) (sym c.self.view_is) c.requires in
    subst (λ (w : Written). c.left.result ≡ ticks_left w.set w.rule w.rows c.args.job.now.job) c.self.view_is
    (c.left.ensures ∙ ap₂ (λ (m : Bool) (n : ℕ). left_of (task_at s.set k) (may_switch s.set s.rule m k) n) c.self.invariant.tally.mode_is u)
