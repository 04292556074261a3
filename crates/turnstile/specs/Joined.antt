-- What one seat knows while it takes in all others, and the state once it has.
use Rattle.std.specs.Prelude.{◌≡◌, ◌⊎◌, ℕ, ◌<◌, ◌≤◌, List, [], All}
use mathlib.Core.Option.{some}
use lib.ListN.{get_elem?}
use Rattle.turnstile.specs.declared.board.SeatView.{SeatView}
use Rattle.turnstile.specs.declared.board.Report.{Report}
use Rattle.turnstile.specs.declared.kept.Kept.{Ghosts}
use Rattle.turnstile.specs.declared.tokens.Seat.{Seat}
use Rattle.turnstile.specs.declared.turns.Turnstile.{Turnstile}
use Rattle.turnstile.specs.History.{made_by}
use Rattle.turnstile.specs.Views.{report_of}
use Rattle.turnstile.specs.Rule.{HasAllOf}
use Rattle.turnstile.specs.Seats.{seats_of, fixed_part}

module _ {E F : Type 0} where
  -- each number below n is the seat's, or the number of a seat that it took in
  abbrev pub Covers : ℕ → SeatView E F → Type 0
  Covers n v = (k : ℕ) → k < n → (k ≡ v.number)
      ⊎ ((i : ℕ) × (r : Report E) × (get_elem? v.joined i ≡ some r) × (r.number ≡ k))

module _ {S E F : Type 0} {kept : Ghosts S E F} where
  -- what a seat reports when it is joined into another
  abbrev pub report : Seat S E F kept → Report E
  report s = report_of s.table_seat.me.0

module _ {S E F : Type 0} (kept : Ghosts S E F) where
  -- the state stands for one history, which has all that the last seat knew and took in from reports
  pub record Unseats (t : Turnstile S E F) (v : SeatView E F) (state : S) : Type 0 where
    pub log : List E
    pub stands : kept.stands 0 log state
    pub fixed : kept.fixed state ≡ fixed_part kept.fixed t
    pub own : HasAllOf kept.by log (report_of v)
    pub known : All (HasAllOf kept.by log) v.joined
    pub others : (k : ℕ) → seats_of t ≤ k → made_by kept.by k log ≡ []
