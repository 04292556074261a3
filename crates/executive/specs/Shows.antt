-- The pairs shown on the board of an executive: after each tick that ended, the number of ticks that ended,
-- and the mode.
use Rattle.std.specs.Prelude.{◌≡◌, ℕ, List, [], ◌∷◌, ◌++◌, Bool, true, false, Option, Ok, IfSome, cond}
use Rattle.mc_model.specs.Rows.{ticks}
use Rattle.mc_model.specs.Mode.{high_mode}
use Rattle.timetable.specs.Floor.{FloorState}
use Rattle.status_board.specs.declared.shown.Shown.{Shown}
use Rattle.status_board.specs.declared.tokens.Writer.{Writer}
use Rattle.status_board.specs.Logs.{start, last_of}
use Rattle.status_board.specs.Tokens.{shown}
use Rattle.executive.specs.declared.entry.Answer.{Answer}
use Rattle.executive.specs.declared.entry.Answer.TheVariants.{Settled, Idled}
use Rattle.executive.specs.declared.entry.Entry.{Entry}
use Rattle.executive.specs.Histories.{after_call}

-- the number of ticks that ended on a floor, and its mode
abbrev pub shown_of : FloorState → Shown
shown_of f = record { ticks = ticks f.core.rows; high_mode = high_mode f.core.rule f.core.rows }

-- whether the answer ends a tick: an outcome, or an idle tick that was taken
abbrev pub ends_tick : Answer → Bool
ends_tick (Settled (Ok how)) = true
ends_tick (Idled (Ok n)) = true
ends_tick _ = false

-- the pairs that a call with this answer adds, if it leaves this floor
abbrev pub shows_now : FloorState → Answer → List Shown
shows_now f a = cond (ends_tick a) (shown_of f ∷ []) []

-- the pairs that these calls add
abbrev pub shows_from : FloorState → List Entry → List Shown
shows_from f [] = []
shows_from f (e ∷ es) =
    shows_now (after_call f e.task.0 e.call) e.answer ++ shows_from (after_call f e.task.0 e.call) es

-- (0, low), and for each tick that ended in the history the number of ticks and the mode after it
abbrev pub shows : FloorState → List Entry → List Shown
shows opening history = start ∷ shows_from opening history

-- the writer, if there is one, showed these pairs
abbrev pub HasShown : List Shown → Option Writer → Type 0
HasShown log writer = IfSome writer (λ w. shown w ≡ log)

-- the writer, if there is one, showed n ticks last
abbrev pub IsUpTo : ℕ → Option Writer → Type 0
IsUpTo n writer = IfSome writer (λ w. (last_of start (shown w)).ticks ≡ n)
