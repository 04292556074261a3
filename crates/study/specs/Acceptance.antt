-- The number of random sets with at least a given stretch.
use Rattle.std.specs.Prelude.{◌≡◌, ℕ, ◌+◌, ◌≤◌, Bool, false, nat_le, List, [], ◌∷◌, map, count_by, Option, None, Some}
use Rattle.std.specs.List.{range_with_len}
use Rattle.set_gen.specs.Words.{words_of}
use Rattle.set_gen.specs.GeneratedSet.{generated_set}
use Rattle.study.specs.Stretch.{is_admitted_at, stretch}

-- whether the stretch is at least s percent
abbrev pub reaches : ℕ → Option ℕ → Bool
reaches s None = false
reaches s (Some most) = nat_le s most

-- the stretch of the set of n tasks generated from a number
unfoldable pub generated_stretch : ℕ → ℕ → Option ℕ
generated_stretch number n = stretch (generated_set (words_of number) n)

-- how many of the sets of n tasks, generated from this number on, have a stretch of at least s percent
unfoldable pub accepted : ℕ → ℕ → ℕ → ℕ → ℕ
accepted number sets n s =
    count_by (λ i. reaches s (generated_stretch (number + i) n)) (range_with_len 0 sets)

-- the percentages of the table: 100, 110 and so on to 200
unfoldable pub percentages : List ℕ
percentages = 100 ∷ 110 ∷ 120 ∷ 130 ∷ 140 ∷ 150 ∷ 160 ∷ 170 ∷ 180 ∷ 190 ∷ 200 ∷ []

-- for each percentage of the table, how many of the sets have at least that stretch
unfoldable pub accept_table : ℕ → ℕ → ℕ → List ℕ
accept_table number sets n = map (accepted number sets n) percentages

-- law: what a range of numbers counts is what its two parts count
abbrev pub PartsAdd : Type 0
PartsAdd = (number first second n s : ℕ)
    → accepted number (first + second) n s ≡ accepted number first n s + accepted (number + first) second n s

-- law: as many sets have a stretch of at least s percent, up to 1000, as the published test admits at s
-- percent
abbrev pub AcceptedAreAdmitted : Type 0
AcceptedAreAdmitted = (number sets n s : ℕ) → 2 ≤ n → n ≤ 32 → s ≤ 1000
    → accepted number sets n s ≡ count_by (λ i. is_admitted_at (generated_set (words_of (number + i)) n) s)
    (range_with_len 0 sets)
