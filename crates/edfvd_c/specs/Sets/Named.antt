-- The names of tasks that a caller gives by their numbers alone.
use Rattle.std.specs.Prelude.{ℕ, zero, suc, ◌+◌, ◌/◌, ◌%◌, List, [], ◌∷◌, ◌++◌}

-- the name of task number k: `t` and three digits
abbrev pub name_of : ℕ → List ℕ
name_of k = 116 ∷ (48 + (k / 100) % 10) ∷ (48 + (k / 10) % 10) ∷ (48 + k % 10) ∷ []

-- the names of the first n tasks
unfoldable pub names_of : ℕ → List (List ℕ)
names_of zero = []
names_of (suc n) = names_of n ++ (name_of (suc n) ∷ [])
