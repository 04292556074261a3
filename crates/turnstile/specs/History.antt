-- A history is the list of the entries of all turns that ended, the first turn's entry first.
use Rattle.std.specs.Prelude.{◌≡◌, ℕ, ◌==◌, List, ◌++◌, filter}

-- the history begins with all of an earlier one
abbrev pub StartsWith : {E : Type 0} → List E → List E → Type 0
StartsWith {E} history earlier = (later : List E) × (history ≡ earlier ++ later)

-- the entries of the seat with this number, in order
abbrev pub made_by : {E : Type 0} → (E → ℕ) → ℕ → List E → List E
made_by by number history = filter (λ e. by e == number) history
