use Rattle.std.proofs.Common.{◌∙◌, arith}
use Rattle.sched_chart.specs.Sheet.{chart_to}
use Rattle.sched_chart.proofs.Filled.{ticks-high, ticks-low, idles}
use Rattle.sched_chart.proofs.marks.mark_run.Goals as goal

pub returns-in-Release : goal.returns-in-Release
unfolding chart_to
returns-in-Release c = λ g t h e. rw c.in-Release.is e

pub returns-then-high : goal.returns-then-high
returns-then-high c = λ g t h e.
    let inside = rw c.in-Ticks.is at c.requires.task in
    let within = rw c.in-Ticks.is at c.requires.tick in
    rw (c.fill_in-then-high.ensures, c.fill_in.ensures, e, c.place.ensures, c.place-then-high.ensures, c.requires.width, ← t, c.len-count.ensures.count, c.in-Ticks.is)
    (ticks-high c.args.set.now.tasks c.args.sheet.ticks _ _ c.in-Ticks.job _ g inside (omega (arith, within, t)) c.how_mark.ensures (h ∙ c.if-high.true))

pub returns-else-high : goal.returns-else-high
returns-else-high c = λ g t h e.
    let inside = rw c.in-Ticks.is at c.requires.task in
    let within = rw c.in-Ticks.is at c.requires.tick in
    let run = rw c.in-Ticks.is at c.requires.run in
    rw (c.fill_in.ensures, e, c.place.ensures, c.requires.width, ← t, c.in-Ticks.is)
    (ticks-low c.args.set.now.tasks c.args.sheet.ticks _ _ c.in-Ticks.job _ g inside (omega (arith, within, t)) c.how_mark.ensures (h ∙ c.if-high.false) run.1)

pub returns-then-high-2 : goal.returns-then-high-2
returns-then-high-2 c = λ g t h e.
    let within = rw c.in-Idles.is at c.requires.tick in
    let run = rw c.in-Idles.is at c.requires.run in
    rw (e, c.place-then-high-2.ensures, c.requires.width, ← t, c.len-count.ensures.count, c.in-Idles.is)
    (idles c.args.set.now.tasks c.args.sheet.ticks _ g _ run (omega (arith, within, t)) (h ∙ c.if-high-2.true))

pub returns-else-high-2 : goal.returns-else-high-2
returns-else-high-2 c = λ g t h e.
    let within = rw c.in-Idles.is at c.requires.tick in
    let run = rw c.in-Idles.is at c.requires.run in
    rw (e, c.in-Idles.is) (idles c.args.set.now.tasks c.args.sheet.ticks _ g _ run (omega (arith, within, t)) (h ∙ c.if-high-2.false))
