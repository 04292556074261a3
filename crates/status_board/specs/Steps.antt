-- What a token learns from a step that it makes on the word.
use Rattle.std.specs.Prelude.{◌≡◌, ℕ, List}
use Rattle.atomic_table.specs.Table.{Me, Step}
use Rattle.status_board.specs.declared.shown.Shown.{Shown}
use Rattle.status_board.specs.declared.shown.TokenView.{TokenView}
use Rattle.status_board.specs.Logs.{StartsWith, IsLog, start, last_of, word_of}
use Rattle.status_board.specs.Views.{shown_view, seen_view}
use Rattle.status_board.specs.Rule.{AllBegin}

-- a token's view, and the slots that it has taken, of which there are none
abbrev pub Standing : Type 0
Standing = Me (Unit {0}) TokenView

-- the step showed a pair: the word found is that of the pair, which comes after those before it
abbrev pub Shows : Step (Unit {0}) → Standing → ℕ → Standing → Type 0
Shows st before found after =
    (now : Shown) × (word_of now ≡ found) × IsLog after.0.list × (after ≡ (shown_view now before.0, before.1))

-- the step saw the log, which begins with all that the token knew before, and found the word of the log's
-- last pair
abbrev pub Looks : Step (Unit {0}) → Standing → ℕ → Standing → Type 0
Looks st before found after = (log : List Shown)
    × IsLog log
    × StartsWith log before.0.list
    × AllBegin log before.0.learned
    × (found ≡ word_of (last_of start log))
    × (after ≡ (seen_view log before.0, before.1))
