use Rattle.std.proofs.Common.{rules, ap, ◌∙◌}
use Rattle.status_board.proofs.Steps.{looks, copies, joins}
use Rattle.status_board.proofs.board.Board.tell.Goals as goal

pub split_seat-note-requires : goal.split_seat-note-requires
split_seat-note-requires c = (c.requires.of.0, search rules, copies _ _ c.args.writer.now.writes.1)

pub join_seat-requires : goal.join_seat-requires
join_seat-requires c =
    let note = c.split_seat-note.ensures.4 in
    let reads = c.args.watcher.now.reads in
    (search rules, search rules, ap (λ m. m.1) note, search rules, joins _ _ _ _ reads.0 reads.1 (ap (λ m. m.0.writes) note) (ap (λ m. m.0.live) note))

pub load-requires : goal.load-requires
load-requires c =
    let both = c.join_seat.ensures.2 in
    let reads = c.args.watcher.now.reads in
    (search rules, search rules, looks _ _ _ (ap (λ m. m.0.writes) both ∙ reads.0) (ap (λ m. m.0.live) both ∙ reads.1))
