-- The next release of each task, and what one pass over the tasks adds.
use Rattle.std.specs.Prelude.{◌≡◌, ℕ, ◌+◌, ◌%◌, ◌^◌, ◌<◌, ◌≤◌, ◌==◌, if◌then◌else◌, List, [], ◌∷◌, ◌++◌, length, slice_index, slice_set}
use Rattle.mc_task.specs.declared.task.Task.{Task}
use Rattle.mc_model.specs.Follows.{Arrival}
use Rattle.set_gen.specs.Words.{after}
use Rattle.set_gen.specs.GeneratedWork.{releases_at, job_rows}
use Rattle.set_gen.specs.declared.jobs.Jobs.{Jobs}

-- one gap for each task of the set, 1 to 2^16 - 1 ticks
pub record AreGaps (set : List Task) (gaps : List ℕ) : Type 0 where
  pub count : length gaps ≡ length set
  pub each : (k : ℕ) → k < length gaps → (1 ≤ slice_index gaps k) × (slice_index gaps k < 2 ^ 16)

-- next is the least multiple of the gap that is not below the boundary
pub record IsNext (gap boundary next : ℕ) : Type 0 where
  pub multiple : next % gap ≡ 0
  pub reached : boundary ≤ next
  pub near : next < boundary + gap

-- for each gap, its least multiple that is not below the boundary
pub record AreNext (gaps : List ℕ) (boundary : ℕ) (next : List ℕ) : Type 0 where
  pub count : length next ≡ length gaps
  pub each : (k : ℕ) → k < length gaps → IsNext (slice_index gaps k) boundary (slice_index next k)

-- the release of one task at boundary `at`, if it has one there
abbrev pub release_of : ℕ → ℕ → ℕ → List Arrival
release_of gap at i = if at % gap == 0 then record { task = i; at = at } ∷ [] else []

-- the job of the task at index i is added, if it is released at boundary `at`; `later` is its next release
-- after that
pub record Visit (set : List Task) (gap at i : ℕ) (old new : Jobs) (later : ℕ) : Type 0 where
  pub rows : new.rows.items ≡ old.rows.items ++ job_rows old.words set (release_of gap at (i + 1))
  pub words : new.words ≡ after (length (release_of gap at (i + 1))) old.words
  pub next : new.next.items ≡ slice_set old.next.items i later
  pub is : IsNext gap (at + 1) later

-- the jobs of boundary `at` are added, and nothing is released after it and before boundary `until`
pub record Pass (set : List Task) (gaps : List ℕ) (at ticks : ℕ) (old new : Jobs) (until : ℕ) : Type 0 where
  pub rows : new.rows.items ≡ old.rows.items ++ job_rows old.words set (releases_at gaps at)
  pub words : new.words ≡ after (length (releases_at gaps at)) old.words
  pub later : at < until
  pub within : until ≤ ticks
  pub none : (r : ℕ) → at < r → r < until → releases_at gaps r ≡ []
  pub next : AreNext gaps until new.next.items
