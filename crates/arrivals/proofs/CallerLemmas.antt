-- For callers: what is kept, by the set and the notes.
use Rattle.std.proofs.Common.{◌≡◌, ℕ, suc, zero, ◌+◌, ◌-◌, ◌≤◌, ◌<◌, ◌≢◌, ◌⊎◌, List, [], ◌∷◌, length, get_or, set, refl, sym, subst, inl, inr, ap, ◌∙◌, arith}
use Rattle.std.proofs.lemmas.Bool.{cases_eq, cases_lt}
use Rattle.std.proofs.lemmas.List.{get_or-set_same, get_or-set_other, set_past}
use Rattle.mc_task.specs.declared.task.Task.{Task}
use Rattle.mc_task.specs.TaskSet.{IsIn}
use Rattle.arrivals.specs.declared.arrivals.Slot.{Slot}
use Rattle.arrivals.specs.Notes.{Note, count}
use Rattle.arrivals.specs.Arrived.{arrived_from, arrived, slot_of, count_of, with_note, HasTask}
use Rattle.arrivals.proofs.Slots.{no_slot, noted}

-- something is kept of each task
pub length-arrived : (k : ℕ) (ts : List Task) (notes : List Note) → length (arrived_from k ts notes) ≡ length ts
length-arrived k [] notes = refl
length-arrived k (t ∷ ts) notes = ap suc (length-arrived (k + 1) ts notes)

pub HasTask-arrived : (set : List Task) (notes : List Note) (k : ℕ) → IsIn set k → HasTask (arrived set notes) k
HasTask-arrived set notes k inside = (inside.0, let len : length (arrived set notes) ≡ length set = length-arrived 1 set notes in omega (arith, inside.1))

count_at : (k i : ℕ) (ts : List Task) (notes : List Note) → i < length ts → (get_or (arrived_from k ts notes) i no_slot).count ≡ count notes (k + i)
count_at k i [] notes within = absurd (omega arith)
count_at k zero (t ∷ ts) notes within = ap (count notes) (let e : k ≡ k + 0 = omega arith in e)
count_at k (suc i) (t ∷ ts) notes within = count_at (k + 1) i ts notes (omega arith) ∙ ap (count notes) (let e : k + 1 + i ≡ k + suc i = omega arith in e)

-- the count that is kept of task number k is the number of its notes
pub count_of-arrived : (set : List Task) (notes : List Note) (k : ℕ) → IsIn set k → count_of (arrived set notes) k ≡ count notes k
count_of-arrived set notes k inside =
    let first : 1 ≤ k = inside.0 in
    let last : k ≤ length set = inside.1 in
    count_at 1 (k - 1) set notes (omega arith) ∙ ap (count notes) (let e : 1 + (k - 1) ≡ k = omega arith in e)

-- one more release of a task counts once
pub count_of-with_note : (slots : List Slot) (k at j : ℕ) → count_of (with_note slots k at) j ≤ count_of slots j + 1
count_of-with_note slots k at j = go (cases_eq (j - 1) (k - 1)) (cases_lt (k - 1) (length slots))
  where
    one_more : Slot
    one_more = noted at (slot_of slots k)

    unchanged : (m : ℕ) → m ≡ count_of slots j → m ≤ count_of slots j + 1
    unchanged m e = omega arith

    go : ((j - 1 ≡ k - 1) ⊎ (j - 1 ≢ k - 1)) → ((k - 1 < length slots) ⊎ (length slots ≤ k - 1)) → count_of (with_note slots k at) j ≤ count_of slots j + 1
    go (inl here) (inl within) = subst (λ (i : ℕ). (get_or (set slots (k - 1) one_more) i no_slot).count ≤ (get_or slots i no_slot).count + 1) (sym here) (let e : (get_or (set slots (k - 1) one_more) (k - 1) no_slot).count ≡ one_more.count = ap (λ (s : Slot). s.count) (get_or-set_same slots (k - 1) one_more no_slot within) in omega arith)
    go (inl here) (inr past) = unchanged (count_of (with_note slots k at) j) (ap (λ (ss : List Slot). count_of ss j) (set_past slots (k - 1) one_more past))
    go (inr there) within = unchanged (count_of (with_note slots k at) j) (ap (λ (s : Slot). s.count) (get_or-set_other slots (k - 1) (j - 1) one_more no_slot there))

-- before any release none was counted
pub count_of-fresh : (set : List Task) (j : ℕ) → count_of (arrived set []) j ≡ 0
count_of-fresh set j = go 1 (j - 1) set
  where
    go : (k i : ℕ) (ts : List Task) → (get_or (arrived_from k ts []) i no_slot).count ≡ 0
    go k i [] = refl
    go k zero (t ∷ ts) = refl
    go k (suc i) (t ∷ ts) = go (k + 1) i ts
