use Rattle.std.proofs.Common.{arith}
use Rattle.mc_model.proofs.Runs.{length-expand-le}
use Rattle.traces_tests.proofs.judging.watched.follow.Goals as goal

pub follow_all-requires-clause-room : goal.follow_all-requires-clause-room
follow_all-requires-clause-room c fits =
    let valid = c.are_runs.ensures c.if-not-are_runs.false in
    let few = valid.few in
    let short = valid.short in
    omega (arith, few, short, c.seen.ensures, c.if-seen.false, length-expand-le c.args.runs.now)
