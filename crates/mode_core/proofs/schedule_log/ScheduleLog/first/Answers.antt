use Rattle.std.proofs.Common.{◌≡◌, option_map, subst}
use Rattle.mc_model.specs.Mode.{high_mode}
use Rattle.mc_model.specs.Pending.{pending}
use Rattle.mc_model.specs.Core.{first_to_run}
use Rattle.mode_core.specs.Entries.{entry}
use Rattle.mode_core.specs.Written.{Written}
use Rattle.mode_core.proofs.FirstJob.{first_pending}
use Rattle.mode_core.proofs.schedule_log.ScheduleLog.first.Goals as goal

pub returns : goal.returns
returns g c =
    subst (λ (w : Written). c.first.result ≡ option_map (entry w.rows) (first_to_run w.set w.rule (high_mode w.rule w.rows) (pending w.set w.rows))) c.self.view_is
    (first_pending (g.R.Recorder.rows c.self.inside.recorder) c.self.inside.pending_jobs c.self.inside.ticks c.first.result c.self.invariant.tasks.each c.self.invariant.holds c.self.invariant.tally c.first.ensures.first c.first.ensures.none)
