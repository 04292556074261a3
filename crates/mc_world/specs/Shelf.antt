-- Shelves as contracts see them, and their files.
use Rattle.std.specs.Prelude.{◌≢◌, ℕ, Bool, true, false, List, [], ◌∷◌, if◌then◌else◌, Option, Some, None, Result, Err, AllPairs}
use Rattle.std.specs.Str.{bytes_eq}
use Rattle.mc_world.specs.declared.shelf.FetchFault.{FetchFault}
use Rattle.mc_world.specs.declared.shelf.FetchFault.TheVariants.{Failed}

-- the bytes under each name that has some
abbrev pub Files : Type 0
Files = List ℕ → Option (List ℕ)

-- a fetch with a result: its name, and whether it failed
pub record Fetch : Type 0 where
  pub name : List ℕ
  pub failed : Bool

-- the fetch of this name
abbrev pub fetch_of : List ℕ → Bool → Fetch
fetch_of name failed = record { name = name; failed = failed }

-- whether the result is `Failed`
abbrev pub is_failed : {T : Type 0} → Result T FetchFault → Bool
is_failed (Err Failed) = true
is_failed answer = false

-- a shelf as contracts see it
pub record ShelfState : Type 0 where
  -- the bytes under each name that has some, if the shelf exposes them
  pub holds : Option Files
  -- the fetches with a result, the first one first, if the shelf exposes them
  pub fetches : Option (List Fetch)
  -- how many fetches have failed
  pub faults : ℕ
  -- how many fetches have run out of memory
  pub memory_faults : ℕ
  -- how many bytes have been read, over all fetches
  pub bytes_read : ℕ

-- the bytes under a name, in a list of names with their bytes
abbrev pub file_at : List ℕ → List (List ℕ × List ℕ) → Option (List ℕ)
file_at name [] = None
file_at name (f ∷ fs) = if bytes_eq f.0 name then Some f.1 else file_at name fs

-- no two files have the same name
abbrev pub NamesDiffer : List (List ℕ × List ℕ) → Type 0
NamesDiffer files = AllPairs (λ f g. f.0 ≢ g.0) files
