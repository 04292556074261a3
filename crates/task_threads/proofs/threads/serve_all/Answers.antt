use Rattle.std.proofs.Common.{arith, length, ap}
use Rattle.timetable.specs.Floor.{FloorState}
use Rattle.task_threads.proofs.InOrder.{none_missing}
use Rattle.task_threads.proofs.threads.serve_all.Goals as goal

pub unreachable-requires : goal.unreachable-requires
unreachable-requires g c =
    let made = c.in-Ok.ensures in
    let passes = c.in_threads-passes.ensures in
    let set = ap (λ (f : FloorState). length f.core.set) made.floor in
    none_missing c.in-Ok.executive c.in_threads-passes.result.items c.in-Err._unclosed.task.0 passes.1 c.in-Err.ensures.missing (omega (arith, passes.0, made.passes.0, set))
