-- What a seat knows: its view of the turnstile, and how each step changes it.
use Rattle.std.specs.Prelude.{ℕ, ◌+◌, List, [], ◌∷◌, ◌++◌, Option, Some, None, true, false}
use Rattle.turnstile.specs.declared.board.SeatView.{SeatView}
use Rattle.turnstile.specs.declared.board.Report.{Report}

module _ {E F : Type 0} where
  -- the view of the seat that was made last, with number k, and what it knows of the fixed part: it has no
  -- ticket, and has seen and made nothing
  abbrev pub last_view : Option F → ℕ → ℕ → SeatView E F
  last_view fixed seats k = record {
    number = k;
    live = true;
    has_ticket = false;
    served = false;
    ticket = 0;
    is_newest = true;
    next_number = k + 1;
    seen = [];
    mine = [];
    joined = [];
    seats = seats;
    fixed = fixed;
  }

  -- the view of the seat that was made last, which knows the fixed part
  abbrev pub newest_view : F → ℕ → ℕ → SeatView E F
  newest_view fixed seats k = last_view (Some fixed) seats k

  -- the view of a seat that made one more: it is no longer the newest
  abbrev pub older_view : SeatView E F → SeatView E F
  older_view v = record v { is_newest = false }

  -- the view of the seat that is made next, with the next number
  abbrev pub next_view : SeatView E F → SeatView E F
  next_view v = last_view v.fixed v.seats v.next_number

  -- the seat drew a ticket
  abbrev pub drawn_view : SeatView E F → ℕ → SeatView E F
  drawn_view v t = record v { has_ticket = true; ticket = t }

  -- the seat's ticket is served, and it has seen the whole history
  abbrev pub served_view : SeatView E F → List E → SeatView E F
  served_view v history = record v { served = true; seen = history }

  -- the view of a seat that ended its turn with one more entry
  abbrev pub left_view : SeatView E F → E → SeatView E F
  left_view v e =
      record v { has_ticket = false; served = false; seen = v.seen ++ e ∷ []; mine = v.mine ++ e ∷ [] }

  -- what the seat reports when it is joined into another
  abbrev pub report_of : SeatView E F → Report E
  report_of v = record { number = v.number; seen = v.seen; mine = v.mine }

  -- the seat with these reports of joined seats
  abbrev pub with_reports : SeatView E F → List (Report E) → SeatView E F
  with_reports v reports = record v { joined = reports }

  -- the first seat's view after it took in the second
  abbrev pub both_views : SeatView E F → SeatView E F → SeatView E F
  both_views v w = with_reports v (report_of w ∷ v.joined)

  -- what is left of a seat that was joined into another
  abbrev pub spent_view : SeatView E F
  spent_view = record {
    number = 0;
    live = false;
    has_ticket = false;
    served = false;
    ticket = 0;
    is_newest = false;
    next_number = 0;
    seen = [];
    mine = [];
    joined = [];
    seats = 0;
    fixed = None;
  }
