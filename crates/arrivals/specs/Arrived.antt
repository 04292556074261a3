-- What is kept of the tasks' releases.
use Rattle.std.specs.Prelude.{◌≡◌, ℕ, ◌+◌, ◌-◌, ◌≤◌, List, [], ◌∷◌, length, slice_index_or, slice_set}
use Rattle.mc_task.specs.declared.task.Task.{Task}
use Rattle.arrivals.specs.declared.arrivals.Slot.{Slot}
use Rattle.arrivals.specs.Notes.{Note, count, next_after}

-- what is kept of a task with no release
abbrev pub fresh_slot : Task → Slot
fresh_slot t = record { period = t.period; count = 0; next = 0 }

-- what is kept of this task, which is number k, after these notes
abbrev pub slot_after : List Note → ℕ → Task → Slot
slot_after notes k t = record { period = t.period; count = count notes k; next = next_after t.period notes k }

-- what is kept of each of these tasks after these notes, if the first task is number k
abbrev pub arrived_from : ℕ → List Task → List Note → List Slot
arrived_from k [] notes = []
arrived_from k (t ∷ ts) notes = slot_after notes k t ∷ arrived_from (k + 1) ts notes

-- what is kept of the tasks of a set after these notes
abbrev pub arrived : List Task → List Note → List Slot
arrived set notes = arrived_from 1 set notes

-- the fact holds of each set and notes after which these slots are kept
abbrev pub ForNotes : List Slot → (List Task → List Note → Type 0) → Type 0
ForNotes slots P = (set : List Task) → (notes : List Note) → slots ≡ arrived set notes → P set notes

-- something is kept of task number k
abbrev pub HasTask : List Slot → ℕ → Type 0
HasTask slots k = (1 ≤ k) × (k ≤ length slots)

-- what is kept of task number k; all 0 if nothing is kept
abbrev pub slot_of : List Slot → ℕ → Slot
slot_of slots k = slice_index_or slots (k - 1) (record { period = 0; count = 0; next = 0 })

-- how many releases of task number k were noted
abbrev pub count_of : List Slot → ℕ → ℕ
count_of slots k = (slot_of slots k).count

-- the boundary from which task number k may be released
abbrev pub next_of : List Slot → ℕ → ℕ
next_of slots k = (slot_of slots k).next

-- what is kept after one more release of task number k, at this boundary
abbrev pub with_note : List Slot → ℕ → ℕ → List Slot
with_note slots k at = let s : Slot = slot_of slots k in slice_set slots (k - 1)
    (record { period = s.period; count = s.count + 1; next = at + s.period })
