use Rattle.std.proofs.Common.{◌≡◌, ◌%◌, ◌^◌, []}
use Rattle.turnstile.specs.Steps.{IsWaiting}
use Rattle.turnstile.specs.Views.{drawn_view}
use Rattle.turnstile.proofs.turns.Turnstile.enter.Given as goal

abbrev pub invariant-loop : goal.invariant-loop
invariant-loop g l = record {
  table : l.table_seat.table_id ≡ l.self.board.shared.table_id;
  waits : IsWaiting l.table_seat.me;
  same : l.table_seat.me ≡ (drawn_view l.fn.seat.table_seat.me.0 l.table_seat.me.0.ticket, []);
  ticket : l.table_seat.me.0.ticket % 2 ^ 64 ≡ l.ticket;
}
