-- The rule that every step keeps: there is one writer, its list is a log, the word stands for the log's last
-- pair, and every other token knows a beginning of the log.
use Rattle.std.specs.Prelude.{◌≡◌, ℕ, List, [], ◌∷◌, true, ⊤}
use mathlib.Core.Option.{some}
use lib.ListN.{get_elem?}
use Rattle.atomic_table.specs.Table.{State}
use Rattle.status_board.specs.declared.shown.Shown.{Shown}
use Rattle.status_board.specs.declared.shown.TokenView.{TokenView}
use Rattle.status_board.specs.Logs.{StartsWith, IsLog, start, last_of, word_of}

-- the log begins with each of the lists
abbrev pub AllBegin : List Shown → List (List Shown) → Type 0
AllBegin log [] = ⊤
AllBegin log (x ∷ xs) = StartsWith log x × AllBegin log xs

-- what holds of token number id
pub record IsTokenOf (log : List Shown) (id : ℕ) (v : TokenView) : Type 0 where
  -- the writer has number 0
  pub first : v.writes ≡ true → id ≡ 0
  -- what the token showed or saw, and what it learned from other tokens, is a beginning of the log
  pub seen : v.live ≡ true → StartsWith log v.list
  pub learned : AllBegin log v.learned

-- what holds between any two steps
pub record Orderly (s : State (Unit {0}) TokenView) : Type 0 where
  pub writer : TokenView
  pub there : get_elem? s.views 0 ≡ some writer
  pub writes : writer.writes ≡ true
  -- what the writer showed is the log
  pub log : IsLog writer.list
  pub word : s.words ≡ word_of (last_of start writer.list) ∷ []
  pub each : (id : ℕ) (v : TokenView) → get_elem? s.views id ≡ some v → IsTokenOf writer.list id v
