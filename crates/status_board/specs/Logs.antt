-- A log is the list of the pairs that were shown, THE FIRST PAIR FIRST.
use Rattle.std.specs.Prelude.{◌≡◌, ℕ, ◌+◌, ◌*◌, List, [], ◌∷◌, ◌++◌, Bool, true, false, ⊤}
use Rattle.std.specs.Coded.{×_prop, Unit-prop, Coded-set, coded_ℕ, coded_bool}
use Rattle.status_board.specs.declared.shown.Shown.{Shown}

-- the list begins with all of an earlier one
abbrev pub StartsWith : List Shown → List Shown → Type 0
StartsWith list earlier = (later : List Shown) × (list ≡ earlier ++ later)

-- what a new board shows: no tick, and low mode
abbrev pub start : Shown
start = record { ticks = 0; high_mode = false }

-- each pair has one tick more than the one before it, and the first of them has n + 1
abbrev pub Rises : ℕ → List Shown → Type 0
Rises n [] = ⊤
Rises n (x ∷ xs) = (x.ticks ≡ n + 1) × Rises (n + 1) xs

-- all that was shown up to some moment: from (0, low) on, one tick at a time
abbrev pub IsLog : List Shown → Type 0
IsLog [] = ⊥
IsLog (x ∷ xs) = (x.ticks ≡ 0) × ((x.high_mode ≡ false) × Rises 0 xs)

-- any two proofs that pairs rise one tick at a time are equal
pub Rises-prop : (n : ℕ) (xs : List Shown) → IsProp (Rises n xs)
Rises-prop n [] = Unit-prop
Rises-prop n (x ∷ xs) = ×_prop (Coded-set coded_ℕ x.ticks (n + 1)) (Rises-prop (n + 1) xs)

-- any two proofs that pairs are a log are equal
pub IsLog-prop : (xs : List Shown) → IsProp (IsLog xs)
IsLog-prop [] = λ a b. absurd a
IsLog-prop (x ∷ xs) =
    ×_prop (Coded-set coded_ℕ x.ticks 0) (×_prop (Coded-set coded_bool x.high_mode false) (Rises-prop 0 xs))

-- the last of the pairs; d if there is none
abbrev pub last_of : Shown → List Shown → Shown
last_of d [] = d
last_of d (x ∷ xs) = last_of x xs

-- 1 in high mode, 0 in low mode
abbrev pub mode_bit : Bool → ℕ
mode_bit true = 1
mode_bit false = 0

-- the word that stands for a pair
abbrev pub word_of : Shown → ℕ
word_of s = 2 * s.ticks + mode_bit s.high_mode
