-- What is stored after one more note, and what it says of one task.
use Rattle.std.proofs.Common.{◌≡◌, ℕ, suc, zero, ◌+◌, ◌-◌, ◌≤◌, ◌<◌, true, false, ◌==◌, List, [], ◌∷◌, option_map, get_or, set, map, refl, sym, ap, ◌∙◌, arith, eq-eqb}
use Rattle.std.specs.Prelude.{slice_get, unwrap_or}
use Rattle.std.proofs.lemmas.Bool.Decides.{nat_tests}
use Rattle.mc_task.specs.declared.task.Task.{Task}
use Rattle.arrivals.specs.declared.arrivals.Slot.{Slot}
use Rattle.arrivals.specs.Notes.{Note, count, next_after, next}
use Rattle.arrivals.specs.Arrived.{fresh_slot, slot_after, arrived_from, arrived, next_of}

-- a note of task number m
abbrev pub note : ℕ → ℕ → Note
note m at = record { task = m; at = at }

-- what is kept of a task after a note of it
abbrev pub noted : ℕ → Slot → Slot
noted at s = record { period = s.period; count = s.count + 1; next = at + s.period }

-- the slot of a task that is not there: all 0
abbrev pub no_slot : Slot
no_slot = record { period = 0; count = 0; next = 0 }

-- a slot with this count and this next boundary
abbrev slot : ℕ → ℕ → ℕ → Slot
slot period count next = record { period = period; count = count; next = next }

-- a note of a task leaves what is kept of tasks with higher numbers as it is
higher : (m at k : ℕ) (ts : List Task) (notes : List Note) → m < k → arrived_from k ts (note m at ∷ notes) ≡ arrived_from k ts notes
higher m at k [] notes low = refl
higher m at k (t ∷ ts) notes low =
    let test : (m == k) ≡ false = grind (arith, nat_tests) in
    let here : slot t.period (0 + count notes k) (next_after t.period notes k) ≡ slot t.period (count notes k) (next_after t.period notes k) =
    ap (λ (n : ℕ). slot t.period n (next_after t.period notes k)) (let e : 0 + count notes k ≡ count notes k = omega arith in e) in
    rw test (ap (λ (s : Slot). s ∷ arrived_from (k + 1) ts (note m at ∷ notes)) here ∙ ap (λ (ss : List Slot). slot_after notes k t ∷ ss) (higher m at (k + 1) ts notes (omega arith)))

-- one more note changes only the slot of its task
pub arrived_more : (m at k i : ℕ) (ts : List Task) (notes : List Note) → m ≡ k + i → set (arrived_from k ts notes) i (noted at (get_or (arrived_from k ts notes) i no_slot)) ≡ arrived_from k ts (note m at ∷ notes)
arrived_more m at k i [] notes e = refl
arrived_more m at k zero (t ∷ ts) notes e =
    let test : (m == k) ≡ true = eq-eqb m k (omega arith) in
    let here : slot t.period (count notes k + 1) (at + t.period) ≡ slot t.period (1 + count notes k) (at + t.period) =
    ap (λ (n : ℕ). slot t.period n (at + t.period)) (let e : count notes k + 1 ≡ 1 + count notes k = omega arith in e) in
    rw test (ap (λ (s : Slot). s ∷ arrived_from (k + 1) ts notes) here ∙ ap (λ (ss : List Slot). slot t.period (1 + count notes k) (at + t.period) ∷ ss) (sym (higher m at (k + 1) ts notes (omega arith))))
arrived_more m at k (suc i) (t ∷ ts) notes e =
    let test : (m == k) ≡ false = grind (arith, nat_tests) in
    let here : slot t.period (count notes k) (next_after t.period notes k) ≡ slot t.period (0 + count notes k) (next_after t.period notes k) =
    ap (λ (n : ℕ). slot t.period n (next_after t.period notes k)) (let e : count notes k ≡ 0 + count notes k = omega arith in e) in
    rw test (ap (λ (ss : List Slot). slot_after notes k t ∷ ss) (arrived_more m at (k + 1) i ts notes (omega arith)) ∙ ap (λ (s : Slot). s ∷ arrived_from (k + 1) ts (note m at ∷ notes)) here)

-- before any note each task has the slot of a task with no release
pub arrived_none : (k : ℕ) (ts : List Task) → map fresh_slot ts ≡ arrived_from k ts []
arrived_none k [] = refl
arrived_none k (t ∷ ts) = ap (λ (ss : List Slot). fresh_slot t ∷ ss) (arrived_none (k + 1) ts)

-- the boundary from which a task may be released, by its index in the list
next_at : (k i : ℕ) (ts : List Task) (notes : List Note) → (get_or (arrived_from k ts notes) i no_slot).next ≡ unwrap_or (option_map (λ (t : Task). next_after t.period notes (k + i)) (slice_get ts i)) 0
next_at k i [] notes = refl
next_at k zero (t ∷ ts) notes = ap (next_after t.period notes) (let e : k ≡ k + 0 = omega arith in e)
next_at k (suc i) (t ∷ ts) notes =
    let e : k + 1 + i ≡ k + suc i = omega arith in
    next_at (k + 1) i ts notes ∙ ap (λ (n : ℕ). unwrap_or (option_map (λ (t : Task). next_after t.period notes n) (slice_get ts i)) 0) e

-- the boundary from which task number k may be released is the same by its slot and by the notes
pub next_of-arrived : (set : List Task) (notes : List Note) (k : ℕ) → 1 ≤ k → next_of (arrived set notes) k ≡ next set notes k
next_of-arrived set notes k some =
    let number : 1 + (k - 1) ≡ k = omega arith in
    let test : (k == 0) ≡ false = grind (arith, nat_tests) in
    next_at 1 (k - 1) set notes ∙ ap (λ (n : ℕ). unwrap_or (option_map (λ (t : Task). next_after t.period notes n) (slice_get set (k - 1))) 0) number
    ∙ rw test refl
