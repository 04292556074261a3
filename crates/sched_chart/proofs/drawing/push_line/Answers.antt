use Rattle.std.proofs.Common.{◌≡◌, length, arith}
use Rattle.sched_chart.proofs.Lines.{pushed-line}
use Rattle.sched_chart.proofs.drawing.push_line.Goals as goal

pub returns-clause-line : goal.returns-clause-line
returns-clause-line c =
    let old : length c.args.text.now.items ≡ c.len.result = omega (arith, c.args.text.now.ok.0, c.len.ensures) in
    pushed-line c.args.sheet.width c.args.sheet.ticks c.args.mark c.len.result _ _ c.args.text.now.items _ _ _ _ c.args.name.now c.requires.name old
    (omega (arith, c.in_ok-extend_from_slice.ensures.len, c.len.ensures)) c.in_ok-resize.ensures.len
    c.in_ok-extend_from_slice.ensures.items c.in_ok-resize.ensures.items c.in_ok-resize-2.ensures.items c.in_ok-push.ensures.items
