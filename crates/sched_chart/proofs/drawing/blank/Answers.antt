use Rattle.std.proofs.Common.{◌≡◌, ◌-◌, ap, refl, take, arith}
use Rattle.std.proofs.lemmas.List.{take_more, take_all}
use Rattle.sched_chart.specs.ChartText.{name_width}
use Rattle.sched_chart.specs.Sheet.{chart_to}
use Rattle.sched_chart.proofs.Lines.{name_fits, lines_more}
use Rattle.sched_chart.proofs.Filled.{least_width}
use Rattle.sched_chart.proofs.drawing.blank.Goals as goal

pub loop-task-init : goal.loop-task-init
loop-task-init c = record { text = c.in_ok-text.ensures.items; room = omega (arith, c.in_ok-text.ensures.len) }

pub push_line-requires-clause-name : goal.push_line-requires-clause-name
push_line-requires-clause-name c =
    let fits = name_fits c.as_slice-tasks.result.now c.loop-task.task-index c.task-item.result c.loop-task-test.true in
    rw (c.bytes.ensures.value, c.task-item.is) (omega (arith, fits, c.requires.width, ap name_width c.as_slice-tasks.ensures.value))

pub loop-task-preserved : goal.loop-task-preserved
loop-task-preserved c =
    let tasks = c.as_slice-tasks.result.now in
    let i = c.loop-task.task-index in
    let longer = take_more tasks i c.task-item.result c.loop-task-test.true in
    let next = lines_more c.args.sheet.ticks c.args.sheet.width 1 (take i tasks) c.task-item.result in
    record {
      text = rw (c.in_ok-push_line.ensures.line, c.bytes.ensures.value, c.loop-task.invariant.text, longer, ← c.task-item.is, next) refl;
      room = omega (arith, c.in_ok-push_line.ensures.length);
    }

pub push_line-requires-2-clause-name : goal.push_line-requires-2-clause-name
push_line-requires-2-clause-name c = omega (arith, c.requires.width, least_width c.args.set.now.tasks)

pub returns : goal.returns
unfolding chart_to
returns c =
    let all : c.args.sheet.ticks - 0 ≡ c.args.sheet.ticks = omega arith in
    let lines = rw (take_all c.loop-task.task-index c.as_slice-tasks.result.now c.loop-task-test.false, c.as_slice-tasks.ensures.value) at c.loop-task.invariant.text in
    rw (c.in_ok-push_line-2.ensures.line, lines, ← c.requires.width, all) refl
