-- Watchers of an executive's board.
use Rattle.std.specs.Prelude.{◌≡◌, Some, option_map}
use Rattle.status_board.specs.declared.tokens.Watcher.{Watcher}
use Rattle.status_board.specs.Tokens.{board_id, watcher_board}
use Rattle.executive.specs.declared.executive.Executive.{Executive}

-- the executive has a board, and the watcher belongs to it
abbrev pub IsWatcherOf : Executive → Watcher → Type 0
IsWatcherOf e w = option_map board_id e.board ≡ Some (watcher_board w)
