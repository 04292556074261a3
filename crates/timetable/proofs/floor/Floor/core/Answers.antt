use Rattle.std.proofs.Common.{subst}
use Rattle.timetable.specs.Floor.{FloorState}
use Rattle.timetable.specs.Plans.{IsOnPlan}
use Rattle.timetable.proofs.KeepsPlan.{on_plan}
use Rattle.timetable.proofs.floor.Floor.core.Goals as goal

pub returns-clause-on_plan : goal.returns-clause-on_plan
returns-clause-on_plan c =
    subst (λ (f : FloorState). IsOnPlan f.plan f.taken f.core) c.self.view_is (on_plan c.self.inside.plan c.self.inside.core c.self.inside.taken c.self.inside.needs c.self.inside.last c.ticks-sound.ensures.sound c.self.invariant)
