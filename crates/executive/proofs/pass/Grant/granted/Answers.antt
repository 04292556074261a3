use Rattle.std.proofs.Common.{sym, ◌∙◌}
use Rattle.executive.specs.Seats.{lists}
use Rattle.executive.proofs.Histories.{still_out, runs_is}
use Rattle.executive.specs.Histories.{after}
use Rattle.executive.proofs.pass.Grant.granted.Goals as goal

pub returns-clause-out : goal.returns-clause-out
returns-clause-out c = λ log legal begins same.
    let t = c.args.self.now in
    let l = lists t.counted_seat.seat in
    (runs_is (after l.opening log).core.out t.counted_seat.task.0 t.granted.job (still_out t.counted_seat.task.0 l.opening l.seen log begins legal (sym t.counted_seat.whole ∙ same) ∙ t.out)).0
