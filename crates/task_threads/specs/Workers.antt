-- Lists of workers, in the order of their tasks.
use Rattle.std.specs.Prelude.{ℕ, ◌+◌, ◌<◌, List, length, slice_index_or}
use Rattle.executive.specs.declared.executive.Executive.{Executive}

-- workers of the tasks from 1 on; is_of says that a worker belongs to an executive and to the task with a
-- number
abbrev pub AreInOrder : {T : Type 0} → (Executive → ℕ → T → Type 0) → Executive → List T → Type 0
AreInOrder {T} is_of e workers =
    (i : ℕ) (d : T) → i < length workers → is_of e (i + 1) (slice_index_or workers i d)
