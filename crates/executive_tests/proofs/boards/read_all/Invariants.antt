use Rattle.status_board.specs.Tokens.{IsWatcherOf}
use Rattle.executive_tests.proofs.boards.read_all.Given as goal

abbrev pub invariant-loop-read : goal.invariant-loop-read
invariant-loop-read l = IsWatcherOf l.board l.watcher
