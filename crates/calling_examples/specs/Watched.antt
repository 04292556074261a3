-- A panel over an executive's board, and the floor that the panel watches.
use Rattle.std.specs.Prelude.{◌≡◌, [], true, None, length}
use Rattle.timetable.specs.Floor.{FloorState, is_planned}
use Rattle.status_board.specs.Logs.{start, last_of}
use Rattle.status_board.specs.Tokens.{seen}
use Rattle.executive.specs.declared.executive.Executive.{Executive}
use Rattle.executive.specs.Watching.{IsWatcherOf}
use Rattle.calling_examples.specs.declared.watched.Panel.{Panel}

-- the panel's watcher belongs to the executive, and the panel shows the last pair that the watcher has seen
pub record IsPanelOf (e : Executive) (p : Panel) : Type 0 where
  pub of : IsWatcherOf e p.watcher
  pub last : p.shown ≡ last_of start (seen p.watcher)

-- a floor of two tasks with a plan, with no rows and no granted tick
pub record IsReady (f : FloorState) : Type 0 where
  pub planned : is_planned f.plan ≡ true
  pub rows : f.core.rows ≡ []
  pub out : f.core.out ≡ None
  pub two : length f.core.set ≡ 2
