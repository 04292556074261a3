-- Tokens as contracts see them.
use Rattle.std.specs.Prelude.{◌≡◌, List, [], ◌∷◌}
use Rattle.status_board.specs.declared.shown.Shown.{Shown}
use Rattle.status_board.specs.declared.tokens.Writer.{Writer}
use Rattle.status_board.specs.declared.tokens.Watcher.{Watcher}
use Rattle.status_board.specs.declared.board.Board.{Board}
use Rattle.status_board.specs.declared.shown.BoardId.{BoardId}
use Rattle.status_board.specs.Logs.{start}
use Rattle.status_board.specs.Ids.{id_of}

-- the pairs that the writer showed, from (0, low) on
abbrev pub shown : Writer → List Shown
shown w = w.seat.me.0.list

-- the pairs that the watcher has seen, or knows to have been shown, from (0, low) on
abbrev pub seen : Watcher → List Shown
seen w = w.seat.me.0.list

-- this is the writer of this board
abbrev pub IsWriterOf : Board → Writer → Type 0
IsWriterOf b w = w.seat.table_id ≡ b.table.shared.table_id

-- the watcher belongs to this board
abbrev pub IsWatcherOf : Board → Watcher → Type 0
IsWatcherOf b w = w.seat.table_id ≡ b.table.shared.table_id

-- which board it is
abbrev pub board_id : Board → BoardId
board_id b = id_of b.table.shared.table_id

-- the board that a writer belongs to
abbrev pub writer_board : Writer → BoardId
writer_board w = id_of w.seat.table_id

-- the board that a watcher belongs to
abbrev pub watcher_board : Watcher → BoardId
watcher_board w = id_of w.seat.table_id

-- a watcher of the board that has seen no tick
abbrev pub IsFresh : Board → Watcher → Type 0
IsFresh b w = IsWatcherOf b w × (seen w ≡ start ∷ [])
