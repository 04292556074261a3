-- A turnstile, its seats and a turn, as contracts see them.
use Rattle.std.specs.Prelude.{◌≡◌, ℕ, ◌==◌, ◌<◌, ◌≤◌, List, [], Some, All, length, slice_index_or, true}
use Rattle.std.specs.List.{list_any}
use Rattle.turnstile.specs.declared.kept.Kept.{Ghosts}
use Rattle.turnstile.specs.declared.tokens.Seat.{Seat}
use Rattle.turnstile.specs.declared.tokens.Turn.{Turn}
use Rattle.turnstile.specs.declared.turns.Turnstile.{Turnstile}
use Rattle.turnstile.specs.History.{StartsWith, made_by}

module _ {S E F : Type 0} where
  -- how many seats the turnstile has
  abbrev pub seats_of : Turnstile S E F → ℕ
  seats_of t = t.board.shared.key.seats

  -- the fixed part of the state that the turnstile was made with
  abbrev pub fixed_part : (S → F) → Turnstile S E F → F
  fixed_part fixed t = fixed t.board.shared.key.state.value

module _ {S E F : Type 0} {kept : Ghosts S E F} where
  -- the number of a seat
  abbrev pub number : Seat S E F kept → ℕ
  number s = s.table_seat.me.0.number

  -- the history that the seat saw, up to the end of its last turn
  abbrev pub seen : Seat S E F kept → List E
  seen s = s.table_seat.me.0.seen

  -- the entries that the seat made, in order
  abbrev pub mine : Seat S E F kept → List E
  mine s = s.table_seat.me.0.mine

  -- the seat is one of this turnstile
  abbrev pub IsOf : Turnstile S E F → Seat S E F kept → Type 0
  IsOf t s = (s.table_seat.table_id ≡ t.board.shared.table_id)
      × (s.table_seat.me.0.fixed ≡ Some (fixed_part kept.fixed t))

  -- the history that the state stood for when the turn began
  abbrev pub history : Turn S E F kept → List E
  history t = t.claim.table_seat.me.0.seen

  -- the state at this moment of the turn
  abbrev pub state_of : Turn S E F kept → S
  state_of t = t.state

  -- the number of the seat that has the turn
  abbrev pub turn_number : Turn S E F kept → ℕ
  turn_number t = t.claim.table_seat.me.0.number

  -- the entries that the seat of the turn made before
  abbrev pub turn_mine : Turn S E F kept → List E
  turn_mine t = t.claim.table_seat.me.0.mine

  -- the turn is one at this turnstile
  abbrev pub IsTurnOf : Turnstile S E F → Turn S E F kept → Type 0
  IsTurnOf t turn = (turn.claim.table_seat.table_id ≡ t.board.shared.table_id)
      × (turn.claim.table_seat.me.0.fixed ≡ Some (fixed_part kept.fixed t))

  -- a seat with this number that has taken no turn
  abbrev pub IsFresh : ℕ → Seat S E F kept → Type 0
  IsFresh k s = (number s ≡ k) × (seen s ≡ []) × (mine s ≡ [])

  -- fresh seats, each with its index in the list as its number
  abbrev pub AreFresh : List (Seat S E F kept) → Type 0
  AreFresh seats = (k : ℕ) (d : Seat S E F kept) → k < length seats → IsFresh k (slice_index_or seats k d)

  -- each number below n is the number of a seat of the list
  abbrev pub HasEach : ℕ → List (Seat S E F kept) → Type 0
  HasEach n seats = (k : ℕ) → k < n → list_any (λ s. number s == k) seats ≡ true

  -- the history begins with what the seat saw, and its entries with the seat's number are exactly those that
  -- the seat made
  abbrev pub IsIn : List E → Seat S E F kept → Type 0
  IsIn log s = StartsWith log (seen s) × (mine s ≡ made_by kept.by (number s) log)

  -- the state stands for one history, of which each seat saw a beginning
  pub record Closes (t : Turnstile S E F) (seats : List (Seat S E F kept)) (state : S) : Type 0 where
    pub log : List E
    pub stands : kept.stands 0 log state
    pub fixed : kept.fixed state ≡ fixed_part kept.fixed t
    pub each : All (λ s. IsIn log s) seats
    -- no entry has a number that no seat has
    pub others : (k : ℕ) → seats_of t ≤ k → made_by kept.by k log ≡ []
