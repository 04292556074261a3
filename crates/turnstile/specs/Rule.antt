-- The rule that every step keeps: tickets, the history, what each seat knows of it, and where the state is.
use Rattle.std.specs.Prelude.{◌≡◌, ◌⊎◌, ℕ, ◌+◌, ◌%◌, ◌^◌, ◌<◌, ◌≤◌, List, [], ◌∷◌, length, Option, Some, Bool, true, false}
use mathlib.Core.Option.{some}
use mathlib.Core.Option as maybe
use lib.ListN.{get_elem?}
use Rattle.atomic_table.specs.Table.{State}
use Rattle.turnstile.specs.declared.board.SeatView.{SeatView}
use Rattle.turnstile.specs.declared.board.Report.{Report}
use Rattle.turnstile.specs.declared.kept.Kept.{Ghosts}
use Rattle.turnstile.specs.History.{StartsWith, made_by}
use Rattle.turnstile.specs.Views.{spent_view}

-- 1 if b is true, otherwise 0
abbrev pub one_if : Bool → ℕ
one_if true = 1
one_if false = 0

-- the history begins with what the seat of a report saw, and its entries with the seat's number are exactly
-- those that the seat reported
abbrev pub HasAllOf : {E : Type 0} → (E → ℕ) → List E → Report E → Type 0
HasAllOf by history r = StartsWith history r.seen × (r.mine ≡ made_by by r.number history)

module _ {E F : Type 0} where
  -- how many seats have a ticket
  abbrev pub tickets_out : List (SeatView E F) → ℕ
  tickets_out [] = 0
  tickets_out (v ∷ vs) = one_if v.has_ticket + tickets_out vs

  -- two seats with the same ticket are the same seat
  abbrev pub TicketsDiffer : List (SeatView E F) → Type 0
  TicketsDiffer views = (i j : ℕ) (v w : SeatView E F) → get_elem? views i ≡ some v → get_elem? views j ≡ some w
      → v.has_ticket ≡ true → w.has_ticket ≡ true → v.ticket ≡ w.ticket → i ≡ j

  -- each ticket from the served one up to the next to be drawn belongs to a seat
  abbrev pub AllInHand : ℕ → ℕ → List (SeatView E F) → Type 0
  AllInHand serving next views = (t : ℕ) → serving ≤ t → t < next
      → (id : ℕ) × (v : SeatView E F) × (get_elem? views id ≡ some v) × (v.has_ticket ≡ true) × (v.ticket ≡ t)

  -- the seat of this report was joined into another, and reported a beginning of the history and its own
  -- entries in it
  abbrev pub IsReported : (E → ℕ) → List E → List (SeatView E F) → Report E → Type 0
  IsReported by history views r = (get_elem? views r.number ≡ some spent_view) × HasAllOf by history r

  -- each report that some seat has is valid
  abbrev pub AllReported : (E → ℕ) → List E → List (SeatView E F) → Type 0
  AllReported by history views = (id k : ℕ) (v : SeatView E F) (r : Report E) → get_elem? views id ≡ some v
      → get_elem? v.joined k ≡ some r → IsReported by history views r

  -- some seat that is served has taken the state
  abbrev pub IsAway : List (SeatView E F) → Type 0
  IsAway views = (id : ℕ) × (v : SeatView E F) × (get_elem? views id ≡ some v) × (v.served ≡ true)

module _ {E F : Type 0} (by : E → ℕ) (fixed : F) (seats drawn : ℕ) (history : List E) (made : ℕ) (id : ℕ)
    (v : SeatView E F) where
  -- what holds of seat number id among those that were made, if `drawn` tickets were drawn
  pub record Fits : Type 0 where
    -- a live seat has its index as its number, and knows the turnstile's fixed part and its number of seats
    pub known : v.live ≡ true → (v.number ≡ id) × (v.fixed ≡ Some fixed) × (v.seats ≡ seats)
    -- a ticket that a seat has is the served one, or will be served
    pub range : v.has_ticket ≡ true → (length history ≤ v.ticket) × (v.ticket < drawn)
    -- a seat that is served has the ticket that is served, and has seen the whole history
    pub turn : v.served ≡ true → (v.has_ticket ≡ true) × (v.ticket ≡ length history) × (v.seen ≡ history)
    -- what the seat saw is a beginning of the history, in which the entries with its number are those that it
    -- made
    pub seen : v.live ≡ true → StartsWith history v.seen
    pub mine : v.live ≡ true → v.mine ≡ made_by by id history
    -- the seat that makes the next seat is the last that was made
    pub newest : v.is_newest ≡ true → (id + 1 ≡ made) × (v.next_number ≡ made)

module _ {S E F : Type 0} (kept : Ghosts S E F) (fixed : F) (seats : ℕ) where
  -- no seat is served, and the state is in its slot and stands for the history
  abbrev pub IsAtHome : List E → List (maybe.Option (Option S)) → List (SeatView E F) → Type 0
  IsAtHome history homes views = (x : S) × (homes ≡ some (Some x) ∷ []) × kept.stands 0 history x
      × (kept.fixed x ≡ fixed)
      × ((id : ℕ) (v : SeatView E F) → get_elem? views id ≡ some v → v.served ≡ false)

  -- what holds between any two steps
  pub record Orderly (s : State (Option S) (SeatView E F)) : Type 0 where
    -- how many tickets were drawn; they are numbered from 0, without a bound
    pub drawn : ℕ
    -- the entries of the turns that ended, one for each ticket whose turn ended
    pub history : List E
    -- the words count tickets modulo 2 ^ 64
    pub words : s.words ≡ (drawn % 2 ^ 64) ∷ (length history % 2 ^ 64) ∷ []
    pub few : (length s.views ≤ seats) × (seats ≤ 128)
    -- each ticket that was drawn had its turn, or belongs to a seat
    pub count : drawn ≡ length history + tickets_out s.views
    pub each : (id : ℕ) (v : SeatView E F) → get_elem? s.views id ≡ some v
        → Fits kept.by fixed seats drawn history (length s.views) id v
    -- the tickets that seats have are distinct, and are the numbers from the served one up to the next to be
    -- drawn
    pub differ : TicketsDiffer s.views
    pub in_hand : AllInHand (length history) drawn s.views
    -- a seat that is not made yet has made no entry
    pub later : (k : ℕ) → length s.views ≤ k → made_by kept.by k history ≡ []
    pub reports : AllReported kept.by history s.views
    pub slot : IsAtHome history s.homes s.views ⊎ IsAway s.views
