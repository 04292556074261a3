use Rattle.std.proofs.Common.{rules}
use Rattle.status_board.proofs.Steps.{looks}
use Rattle.status_board.proofs.board.Board.read.Goals as goal

pub load-found-requires : goal.load-found-requires
load-found-requires c = (c.requires.of, search rules, looks _ _ _ c.args.watcher.now.reads.0 c.args.watcher.now.reads.1)
