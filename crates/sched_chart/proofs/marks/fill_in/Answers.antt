use Rattle.std.proofs.Common.{◌≡◌, ◌+◌, ◌-◌, arith}
use Rattle.sched_chart.proofs.Filled.{filled-in}
use Rattle.sched_chart.proofs.marks.fill_in.Goals as goal

pub returns : goal.returns
returns c =
    let long : c.args.at + c.args.count - c.args.at ≡ c.args.count = omega arith in
    let all = c.fill.ensures.after (λ y e. e) in
    rw (all, long) (filled-in c.args.chart.now c.args.at c.args.count c.args.mark c.requires)
