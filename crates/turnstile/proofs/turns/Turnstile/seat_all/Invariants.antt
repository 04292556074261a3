use Rattle.std.proofs.Common.{◌≡◌, ◌+◌, ◌≤◌, [], length, All, vec_capacity}
use Rattle.turnstile.specs.Views.{newest_view}
use Rattle.turnstile.specs.Seats.{AreFresh, IsOf, fixed_part}
use Rattle.turnstile.proofs.turns.Turnstile.seat_all.Given as goal

abbrev pub invariant-loop-i : goal.invariant-loop-i
invariant-loop-i g l = record {
  low : 1 ≤ l.i;
  table : l.table_seat.table_id ≡ l.self.board.shared.table_id;
  me : l.table_seat.me ≡ (newest_view (fixed_part g.S.Kept.fixed l.self) l.seats (length l.list.items), []);
  len : length l.list.items + 1 ≡ l.i;
  room : l.seats ≤ vec_capacity l.list;
  capacity : vec_capacity l.list ≡ vec_capacity l.fn.list;
  fresh : AreFresh l.list.items;
  all : All (λ s. IsOf l.self s) l.list.items;
}
