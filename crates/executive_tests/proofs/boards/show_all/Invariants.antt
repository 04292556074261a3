use Rattle.std.proofs.Common.{◌≡◌, ◌+◌}
use Rattle.status_board.specs.Logs.{start, last_of}
use Rattle.status_board.specs.Tokens.{shown, IsWriterOf}
use Rattle.executive_tests.proofs.boards.show_all.Given as goal

abbrev pub invariant-loop-tick : goal.invariant-loop-tick
invariant-loop-tick l = IsWriterOf l.board l.writer × (l.tick ≡ (last_of start (shown l.writer)).ticks + 1)
