use Rattle.std.proofs.Common.{◌≡◌, ◌∙◌, ap, arith, length}
use Rattle.timetable.specs.Floor.{FloorState}
use Rattle.executive.specs.Passes.{floor_of}
use Rattle.task_threads.proofs.InOrder.{none_missing}
use Rattle.task_threads.proofs.LiveClose.{closed_live}
use Rattle.task_threads.proofs.live.run_live.Goals as goal
use Rattle.task_threads.proofs.live.run_live.Goals.{After-give_passes}

-- as many passes come back as there are tasks
all_back : (g : _) (c : After-give_passes g) → length c.give_passes.new.passes.items ≡ length (floor_of c.in-Ok.executive).core.set
all_back g c =
    let made = c.in-Ok.ensures in
    let set = ap (λ (f : FloorState). length f.core.set) made.floor in
    omega (arith, c.give_passes.ensures.0, c.in_threads-runners.ensures.0, c.make_runners.ensures.0, made.passes.0, set)

pub finish_live-requires-clause-live : goal.finish_live-requires-clause-live
finish_live-requires-clause-live g c =
    closed_live c.in-Ok.executive c.give_passes.new.passes.items c.in-Ok-close.floor c.in-Ok-close.ensures.floor
    (ap (λ (f : FloorState). f.plan) c.in-Ok.ensures.floor ∙ c.requires.free) c.give_passes.ensures.1
    (all_back g (goal.at.finish_live-requires-clause-live g c).After-give_passes)

pub unreachable-requires : goal.unreachable-requires
unreachable-requires g c =
    none_missing c.in-Ok.executive c.give_passes.new.passes.items c.in-Err._unclosed.task.0
    (λ i d lt. (c.give_passes.ensures.1 i d lt).0) c.in-Err.ensures.missing (all_back g (goal.at.unreachable-requires g c).After-give_passes)
