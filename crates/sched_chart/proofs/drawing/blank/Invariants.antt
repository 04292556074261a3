use Rattle.std.proofs.Common.{◌≡◌, ◌*◌, ◌≤◌, [], take, vec_len}
use Rattle.sched_chart.specs.ChartText.{lines_with}
use Rattle.sched_chart.specs.Sheet.{task_marks_to}
use Rattle.sched_chart.proofs.drawing.blank.Given as goal

abbrev pub invariant-loop-task : goal.invariant-loop-task
invariant-loop-task l = record {
  text : l.text.items ≡ lines_with (task_marks_to l.sheet.ticks []) l.sheet.width 1 (take l.task-index l.tasks);
  room : vec_len l.text ≤ l.task-index * 2000034;
}
