use Rattle.std.proofs.Common.{◌≡◌, ◌++◌, [], map, All}
use Rattle.turnstile.specs.Steps.{IsIdle}
use Rattle.turnstile.specs.Joined.{report}
use Rattle.turnstile.specs.Views.{with_reports}
use Rattle.turnstile.proofs.turns.Turnstile.gather.Given as goal

abbrev pub invariant-loop-seat : goal.invariant-loop-seat
invariant-loop-seat g l = record {
  table : (l.table_seat.table_id ≡ l.self.board.shared.table_id);
  id : l.table_seat.id ≡ l.fn.table_seat.id;
  idle : IsIdle l.table_seat.me;
  me : l.table_seat.me ≡ (with_reports l.fn.table_seat.me.0 l.table_seat.me.0.joined, []);
  joined : map report l.seats.items ++ l.table_seat.me.0.joined ≡ map report l.fn.seats.items ++ l.fn.table_seat.me.0.joined;
  of : All (λ s. s.table_seat.table_id ≡ l.self.board.shared.table_id) l.seats.items;
}

abbrev pub decreases-loop-seat : goal.decreases-loop-seat
decreases-loop-seat g l = goal.left-loop-seat g l
