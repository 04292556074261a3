use Rattle.std.proofs.Common.{rules, All}
use Rattle.mc_model.specs.Legal.{IsOfSet}
use Rattle.edfvd_c.proofs.traces.judged.verdict_on.Goals as goal

pub judge-requires-clause-tasks : goal.judge-requires-clause-tasks
judge-requires-clause-tasks c =
    let of : All (IsOfSet c.args.set.now.tasks) c.args.rows.now = search rules in
    rw c.deref.ensures.value (c.in-Ok.ensures.tasks c.args.set.now.tasks of)
