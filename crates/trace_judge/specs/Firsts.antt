-- The first element of a list that passes a test, changed or taken out.
use Rattle.std.specs.Prelude.{◌≡◌, ℕ, ◌<◌, Bool, true, false, cond, List, [], ◌∷◌, ◌++◌, length, take, slice_index_or}
use Rattle.std.specs.List.{list_any}

-- the list with other elements in the place of the first one that passes the test
abbrev pub edit_first : {X : Type 0} → (X → Bool) → (X → List X) → List X → List X
edit_first p k [] = []
edit_first p k (x ∷ xs) = cond (p x) (k x ++ xs) (x ∷ edit_first p k xs)

-- the list with the first element that passes the test changed
abbrev pub change_first : {X : Type 0} → (X → Bool) → (X → X) → List X → List X
change_first p f xs = edit_first p (λ x. f x ∷ []) xs

-- the list without the first element that passes the test
abbrev pub remove_first : {X : Type 0} → (X → Bool) → List X → List X
remove_first p xs = edit_first p (λ x. []) xs

-- the first element that passes the test stands at index i
pub record IsFirstAt {X : Type 0} (p : X → Bool) (xs : List X) (i : ℕ) : Type 0 where
  pub inside : i < length xs
  pub before : list_any p (take i xs) ≡ false
  pub here : (d : X) → p (slice_index_or xs i d) ≡ true
