-- The number of the eleven percentages that a random set reaches.
use Rattle.std.specs.Prelude.{◌≡◌, ℕ, ◌+◌, ◌*◌, ◌/◌, ◌<◌, ◌≤◌, nat_lt, List, length, count_by, Option}
use Rattle.std.specs.List.{AllByRecursion}
use Rattle.mc_task.specs.declared.task.Task.{Task}
use Rattle.mc_model.specs.Loads.{load, low_low, high_low}
use Rattle.mc_model.specs.Sums.{total}
use Rattle.study.specs.declared.levels.High.{High}
use Rattle.study.specs.declared.levels.Sums.{Sums}
use Rattle.study.specs.Loads.{budget_at}
use Rattle.study.specs.Acceptance.{reaches}

-- the stretch reaches the first k of the percentages 100, 110 and so on to 200, and no others
abbrev pub IsReached : Option ℕ → ℕ → Type 0
IsReached stretch k = (i : ℕ) → i < 11 → reaches (100 + 10 * i) stretch ≡ nat_lt i k

-- how many numbers of the list are more than i
unfoldable pub more_than : ℕ → List ℕ → ℕ
more_than i ks = count_by (nat_lt i) ks

-- what a generated task asks for of the span at s percent of its high budget, for 100 or more
abbrev pub asks_at : ℕ → High → ℕ
asks_at s high = high.budget * s / 100 * high.jobs

-- the numbers of a generated task are small
pub record IsSmall (high : High) : Type 0 where
  pub budget : high.budget ≤ 30000
  pub jobs : high.jobs ≤ 100

-- what the tasks of the set ask for of 20000 ticks
pub record AreSumsOf (set : List Task) (sums : Sums) : Type 0 where
  pub low_low : sums.low_low ≡ load low_low 20000 set
  pub high_low : sums.high_low ≡ load high_low 20000 set
  pub highs : (s : ℕ) → 100 ≤ s → s ≤ 200 → total (asks_at s) sums.highs.items ≡ load (budget_at s) 20000 set
  pub few : length sums.highs.items ≤ 32
  pub small : AllByRecursion IsSmall sums.highs.items

-- at the first k of the percentages the high tasks ask for at most this number of ticks, and at the next one,
-- if there is one, for more
pub record IsUpTo (highs : List High) (most k : ℕ) : Type 0 where
  pub few : k ≤ 11
  pub within : (i : ℕ) → i < k → total (asks_at (100 + 10 * i)) highs ≤ most
  pub past : k < 11 → most < total (asks_at (100 + 10 * k)) highs
