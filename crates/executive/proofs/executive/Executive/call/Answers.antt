use Rattle.executive.specs.Seats.{lists}
use Rattle.executive.proofs.Adding.{empty}
use Rattle.executive.proofs.executive.Executive.call.Goals as goal

pub counted-requires-clause-adds : goal.counted-requires-clause-adds
counted-requires-clause-adds g c =
    let e = empty c.args.self.now c.args.counted_seat c.requires.of in
    (lists c.args.counted_seat.seat, c.args.call, c.turn-seat.ensures.adds, e.rows, e.held, c.args.counted_seat.counts)
