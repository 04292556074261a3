use Rattle.std.proofs.Common.{◌≡◌, ◌-◌}
use Rattle.mc_model.specs.Rows.{ticks}
use Rattle.executive.specs.Stands.{opening_of}
use Rattle.task_threads.specs.LiveLeft.{IsLiveFloor}
use Rattle.task_threads.proofs.live_left.finish_live.Given as goal

abbrev pub invariant-loop-floor : goal.invariant-loop-floor
invariant-loop-floor l = IsLiveFloor l.floor × (opening_of l.floor ≡ opening_of l.fn.floor)

abbrev pub decreases-loop-floor : goal.decreases-loop-floor
decreases-loop-floor l = l.ticks - ticks l.floor.core.rows
