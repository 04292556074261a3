-- What a token knows: its view of the board, and how each step changes it.
use Rattle.std.specs.Prelude.{List, [], ◌∷◌, ◌++◌, length, true, false, nat_lt, if◌then◌else◌}
use Rattle.status_board.specs.declared.shown.Shown.{Shown}
use Rattle.status_board.specs.declared.shown.TokenView.{TokenView}
use Rattle.status_board.specs.Logs.{start}

-- the writer, before it shows anything
abbrev pub writer_view : TokenView
writer_view = record { writes = true; live = true; list = start ∷ []; learned = [] }

-- a watcher, or a note for one, that knows what the writer with this view showed
abbrev pub watcher_view : TokenView → TokenView
watcher_view v = record { writes = false; live = true; list = v.list; learned = [] }

-- a writer's view after it showed one more pair
abbrev pub shown_view : Shown → TokenView → TokenView
shown_view now v = record v { list = v.list ++ now ∷ [] }

-- a token's view after it saw the board, if this is the log
abbrev pub seen_view : List Shown → TokenView → TokenView
seen_view log v = record v { list = log; learned = [] }

-- the longer of two lists
abbrev pub longer : List Shown → List Shown → List Shown
longer xs ys = if nat_lt (length xs) (length ys) then ys else xs

-- a view after it took in another: it has the longer list, and keeps both
abbrev pub both_views : TokenView → TokenView → TokenView
both_views v w = record v { list = longer v.list w.list; learned = v.list ∷ w.list ∷ v.learned }

-- what is left of a note that was joined into a watcher
abbrev pub spent_view : TokenView
spent_view = record { writes = false; live = false; list = []; learned = [] }
