use Rattle.std.proofs.Common.{take, arith, ap, length}
use Rattle.std.proofs.lemmas.List.{take_more}
use Rattle.sched_chart.proofs.Lines.{short_name, name_width-more}
use Rattle.sched_chart.proofs.drawing.name_width.Goals as goal

pub loop-task-preserved : goal.loop-task-preserved
loop-task-preserved c =
    let name = ap length c.bytes.ensures.value in
    let few = short_name c.task-item.result.name c.bytes.ensures.form in
    let i = c.loop-task.task-index in
    let next = name_width-more (take i c.args.tasks.now) c.task-item.result in
    record {
      most = omega (arith, name, few);
      width = rw (take_more c.args.tasks.now i c.task-item.result c.loop-task-test.true, ← c.task-item.is) (omega (arith, name, next));
    }
