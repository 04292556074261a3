-- A calm shelf in memory as contracts see it, and the results of its fetches.
use Rattle.std.specs.Prelude.{ℕ, ◌++◌, List, [], ◌∷◌, Some, Result, Err, Vec, String, string_bytes, map, false, unwrap_or}
use Rattle.std.specs.declared.alloc.Global.{Global}
use Rattle.mc_world.specs.Count.{one_more}
use Rattle.mc_world.specs.Shelf.{Files, Fetch, fetch_of, file_at}
use Rattle.mc_world.specs.declared.shelf.FetchFault.{FetchFault}
use Rattle.mc_world.specs.declared.shelf.FetchFault.TheVariants.{Memory}

-- a calm shelf in memory: its files, and the fetches from it
pub record CalmShelfState : Type 0 where
  -- the files, each a name and its bytes
  pub files : List (List ℕ × List ℕ)
  -- the fetches with a result, the first one first; none failed
  pub fetches : List Fetch
  -- how many fetches ran out of memory; these are not among `fetches`
  pub memory_faults : ℕ

-- the fetches of these names, none of which failed
abbrev pub calm_fetches : List (String Global) → List Fetch
calm_fetches names = map (λ n. fetch_of (string_bytes n) false) names

-- a calm shelf without any fetch
abbrev pub new_calm_shelf : List (List ℕ × List ℕ) → CalmShelfState
new_calm_shelf files = record { files = files; fetches = []; memory_faults = 0 }

-- the bytes under a name; none if the list lacks it
abbrev pub bytes_at : List ℕ → List (List ℕ × List ℕ) → List ℕ
bytes_at name files = unwrap_or (file_at name files) []

-- what a calm shelf has: bytes under each name
abbrev pub calm_files : List (List ℕ × List ℕ) → Files
calm_files files name = Some (bytes_at name files)

-- the calm shelf after a fetch of that name with that result
abbrev pub after_calm_fetch : CalmShelfState → List ℕ → Result (Vec ℕ Global) FetchFault → CalmShelfState
after_calm_fetch s name (Err Memory) = record s { memory_faults = one_more s.memory_faults }
after_calm_fetch s name _ = record s { fetches = s.fetches ++ fetch_of name false ∷ [] }
