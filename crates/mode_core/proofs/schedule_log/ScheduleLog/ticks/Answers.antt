use Rattle.std.proofs.Common.{◌≤◌, List, length, subst, arith}
use Rattle.mc_model.specs.declared.row.Row.{Row}
use Rattle.mc_model.proofs.Ticks.{ticks-le}
use Rattle.mode_core.specs.Written.{Written}
use Rattle.mode_core.proofs.schedule_log.ScheduleLog.ticks.Goals as goal

pub returns-clause-range : goal.returns-clause-range
returns-clause-range g c =
    let h : List Row = g.R.Recorder.rows c.self.inside.recorder in
    let t : c.self.inside.ticks ≤ length h = omega (arith, c.self.invariant.tally.clock_is, ticks-le h) in
    subst (λ (w : Written). c.self.inside.ticks ≤ length w.rows) c.self.view_is t
