-- A shelf in memory as contracts see it, and the results of its fetches.
use Rattle.std.specs.Prelude.{◌≡◌, ⊤, ℕ, Bool, true, false, ◌+◌, ◌++◌, List, [], ◌∷◌, length, map, if◌then◌else◌, nat_eq, nat_lt, Option, Some, None, Result, Ok, Err, String, string_bytes, Vec}
use Rattle.std.specs.List.{list_any}
use Rattle.std.specs.declared.alloc.Global.{Global}
use Rattle.mc_world.specs.Count.{one_more}
use Rattle.mc_world.specs.Shelf.{Fetch, fetch_of, file_at}
use Rattle.mc_world.specs.declared.shelf.FetchFault.{FetchFault}
use Rattle.mc_world.specs.declared.shelf.FetchFault.TheVariants.{Failed, TooLong, Memory}

-- a shelf in memory: its files, which fetches it fails, and the fetches from it
pub record MemoryShelfState : Type 0 where
  -- the files, each a name and its bytes
  pub files : List (List ℕ × List ℕ)
  -- the fetches that the shelf is configured to fail, counted from 1
  pub fails : List ℕ
  -- the fetches with a result, the first one first
  pub fetches : List Fetch
  -- how many fetches failed
  pub faults : ℕ
  -- how many fetches ran out of memory; these are not among `fetches`
  pub memory_faults : ℕ

-- the files of a list in memory
abbrev pub files_of : List (String Global × Vec ℕ Global) → List (List ℕ × List ℕ)
files_of files = map (λ f. (string_bytes f.0, f.1.items)) files

-- the fetches of a list in memory
abbrev pub fetches_of : List (String Global × Bool) → List Fetch
fetches_of fetches = map (λ f. fetch_of (string_bytes f.0) f.1) fetches

-- a shelf without any fetch
abbrev pub new_shelf : List (List ℕ × List ℕ) → List ℕ → MemoryShelfState
new_shelf files fails = record { files = files; fails = fails; fetches = []; faults = 0; memory_faults = 0 }

-- the result of a fetch for a file, if there is one
abbrev pub answer_of : Option (List ℕ) → ℕ → Result (List ℕ) FetchFault
answer_of None limit = Err Failed
answer_of (Some bytes) limit = if nat_lt limit (length bytes) then Err TooLong else Ok bytes

-- the result of the next fetch, if memory suffices; the first fetch is number 1
abbrev pub next_answer : MemoryShelfState → List ℕ → ℕ → Result (List ℕ) FetchFault
next_answer s name limit =
    if list_any (nat_eq (length s.fetches + 1)) s.fails then Err Failed
    else answer_of (file_at name s.files) limit

-- the result of a fetch is this one, or an allocation failed
abbrev pub Answers : Result (Vec ℕ Global) FetchFault → Result (List ℕ) FetchFault → Type 0
Answers (Err Memory) answer = ⊤
Answers (Err fault) answer = answer ≡ Err fault
Answers (Ok bytes) answer = answer ≡ Ok bytes.items

-- the shelf after a fetch of that name with that result
abbrev pub after_fetch : MemoryShelfState → List ℕ → Result (Vec ℕ Global) FetchFault → MemoryShelfState
after_fetch s name (Err Memory) = record s { memory_faults = one_more s.memory_faults }
after_fetch s name (Err Failed) =
    record s { fetches = s.fetches ++ fetch_of name true ∷ []; faults = s.faults + 1 }
after_fetch s name _ = record s { fetches = s.fetches ++ fetch_of name false ∷ [] }
