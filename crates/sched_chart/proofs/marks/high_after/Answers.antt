use Rattle.sched_chart.proofs.Filled.{over-ticks, stays-high, turns-high}
use Rattle.sched_chart.proofs.marks.high_after.Goals as goal

pub returns-then-high : goal.returns-then-high
returns-then-high c = λ g e.
    let run = rw c.in-Ticks.is at c.requires in
    rw (c.in-Ticks.is, over-ticks c.in-Ticks.length c.in-Ticks.job c.in-Ticks.how g run.0) (stays-high _ _ _ e c.if-high.true)

pub returns-else-high : goal.returns-else-high
returns-else-high c = λ g e.
    let run = rw c.in-Ticks.is at c.requires in
    rw (c.in-Ticks.is, over-ticks c.in-Ticks.length c.in-Ticks.job c.in-Ticks.how g run.0, c.is_over.ensures) (turns-high _ _ _ e c.if-high.false)
