-- Threads that were started, and workers for which no thread could be started.
use Rattle.std.specs.Prelude.{◌≡◌, ◌⊎◌, ℕ, ◌-◌, ◌<◌, List, length, slice_index_or, IfSome, IsSome}
use Rattle.executive.specs.declared.executive.Executive.{Executive}
use Rattle.task_threads.specs.declared.starts.SpawnResult.{SpawnResult}

module _ {T : Type 0} where
  -- a start of task number k: a thread that promises to return its worker, or the worker
  abbrev pub IsSpawnResultOf : (Executive → ℕ → T → Type 0) → Executive → ℕ → SpawnResult T → Type 0
  IsSpawnResultOf is_of e k s =
      IfSome s.handle (λ h. (h.promise.executive.value ≡ e) × (h.promise.task.0 ≡ k))
      × IfSome s.worker (λ w. is_of e k w)
      × (IsSome s.handle ⊎ IsSome s.worker)

  -- the starts are those of the tasks from number n down
  abbrev pub GoDown : (Executive → ℕ → T → Type 0) → Executive → ℕ → List (SpawnResult T) → Type 0
  GoDown is_of e n starts = (i : ℕ) (d : SpawnResult T) → i < length starts
      → IsSpawnResultOf is_of e (n - i) (slice_index_or starts i d)
