use Rattle.std.proofs.Common.{arith}
use Rattle.mc_task.specs.TaskSet.{IsScale}
use Rattle.task_file.proofs.ScaleLemmas.{lowest-IsScale}
use Rattle.task_file.proofs.scale.lowest_scale.Goals as goal

pub overflow_cast-result : goal.overflow_cast-result
overflow_cast-result c =
    let is : IsScale (record { p = c.new-x.result.num; q = c.new-x.result.den }) =
    rw (c.new-x.ensures.value, c.from.ensures, c.from-2.ensures) (lowest-IsScale c.args.p c.args.q c.requires.some c.requires.order c.requires.small) in
    omega (arith, is.order, is.small)

pub overflow_cast-result-2 : goal.overflow_cast-result-2
overflow_cast-result-2 c =
    let is : IsScale (record { p = c.new-x.result.num; q = c.new-x.result.den }) =
    rw (c.new-x.ensures.value, c.from.ensures, c.from-2.ensures) (lowest-IsScale c.args.p c.args.q c.requires.some c.requires.order c.requires.small) in
    omega (arith, is.small)

pub returns-clause-scale : goal.returns-clause-scale
returns-clause-scale c =
    rw (c.num.ensures, c.den.ensures.value, c.new-x.ensures.value, c.from.ensures, c.from-2.ensures)
    (lowest-IsScale c.args.p c.args.q c.requires.some c.requires.order c.requires.small)
