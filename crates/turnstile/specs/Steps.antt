-- What a seat learns from a step that it makes on a word.
use Rattle.std.specs.Prelude.{◌≡◌, ◌≢◌, ℕ, ◌%◌, ◌^◌, List, [], ◌∷◌, Option, Some, None, true, false}
use Rattle.atomic_table.specs.Table.{Me, Step}
use Rattle.turnstile.specs.declared.board.SeatView.{SeatView}
use Rattle.turnstile.specs.declared.kept.Kept.{Ghosts}
use Rattle.turnstile.specs.History.{StartsWith, made_by}
use Rattle.turnstile.specs.Views.{drawn_view, served_view, left_view}

-- a seat's view, and the slots that it has taken
abbrev pub Standing : Type 0 → Type 0 → Type 0 → Type 0
Standing S E F = Me (Option S) (SeatView E F)

module _ {S E F : Type 0} where
  -- a seat between two turns
  abbrev pub IsIdle : Standing S E F → Type 0
  IsIdle m = (m.0.live ≡ true) × (m.0.has_ticket ≡ false) × (m.0.served ≡ false) × (m.1 ≡ [])

  -- a seat with a ticket whose turn has not come
  abbrev pub IsWaiting : Standing S E F → Type 0
  IsWaiting m = (m.0.live ≡ true) × (m.0.has_ticket ≡ true) × (m.0.served ≡ false) × (m.1 ≡ [])

  -- a seat that has the turn, and took the state out of its slot
  abbrev pub IsServed : Standing S E F → Type 0
  IsServed m = (m.0.live ≡ true) × (m.0.has_ticket ≡ true) × (m.0.served ≡ true) × (m.1 ≡ (0, None) ∷ [])

  -- the seat drew a ticket, whose last 64 bits were found
  abbrev pub Draws : Step (Option S) → Standing S E F → ℕ → Standing S E F → Type 0
  Draws st before found after = (t : ℕ) × (after ≡ (drawn_view before.0 t, before.1)) × (t % 2 ^ 64 ≡ found)

  -- the seat has the turn. It has seen the history, for which the state x stands, and its own entries there
  -- are those that it made; it took the slot, whose content is the second argument
  abbrev pub Serves : Ghosts S E F → Option S → Standing S E F → S → Standing S E F → Type 0
  Serves kept slot before x after = (history : List E)
      × (after ≡ (served_view before.0 history, (0, slot) ∷ []))
      × StartsWith history before.0.seen
      × kept.stands 0 history x
      × (before.0.fixed ≡ Some (kept.fixed x))
      × (before.0.mine ≡ made_by kept.by before.0.number history)

  -- if the number found is the seat's ticket, the seat has the turn; otherwise nothing changed
  abbrev pub Looks : Ghosts S E F → Step (Option S) → Standing S E F → ℕ → Standing S E F → Type 0
  Looks kept st before found after =
      (found ≡ before.0.ticket % 2 ^ 64 → (x : S) × Serves kept (Some x) before x after)
      × (found ≢ before.0.ticket % 2 ^ 64 → after ≡ before)

  -- the turn ended with the entry e, and the slot was put back
  abbrev pub PassesOn : E → Step (Option S) → Standing S E F → ℕ → Standing S E F → Type 0
  PassesOn e st before found after = after ≡ (left_view before.0 e, [])
