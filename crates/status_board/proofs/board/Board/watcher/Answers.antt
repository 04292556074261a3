use Rattle.std.proofs.Common.{rules}
use Rattle.status_board.proofs.Steps.{copies}
use Rattle.status_board.proofs.board.Board.watcher.Goals as goal

pub split_seat-requires : goal.split_seat-requires
split_seat-requires c = (c.requires.of, search rules, copies _ _ c.args.writer.now.writes.1)
