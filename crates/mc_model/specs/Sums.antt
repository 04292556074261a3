-- Sums over lists.
use Rattle.std.specs.Prelude.{ℕ, ◌+◌, Bool, cond, List, [], ◌∷◌}

-- the sum of f over the list
abbrev pub total : {X : Type 0} → (X → ℕ) → List X → ℕ
total f [] = 0
total f (x ∷ xs) = f x + total f xs

-- the number that f gives if the test passes, else 0
abbrev pub when : {X : Type 0} → (X → Bool) → (X → ℕ) → X → ℕ
when p f x = cond (p x) (f x) 0
