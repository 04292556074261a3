use Rattle.std.proofs.Common.{◌≡◌, ◌≤◌, take}
use Rattle.sched_chart.specs.ChartText.{name_width}
use Rattle.sched_chart.proofs.drawing.name_width.Given as goal

abbrev pub invariant-loop-task : goal.invariant-loop-task
invariant-loop-task l = record {
  most : l.width ≤ 32;
  width : l.width ≡ name_width (take l.task-index l.tasks);
}
