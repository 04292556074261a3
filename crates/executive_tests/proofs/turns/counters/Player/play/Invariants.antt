use Rattle.std.proofs.Common.{◌≡◌, ◌+◌, length}
use Rattle.turnstile.specs.Seats.{IsOf, mine}
use Rattle.executive_tests.proofs.turns.counters.Player.play.Given as goal

abbrev pub invariant-loop : goal.invariant-loop
invariant-loop g l = record {
  of : IsOf l.turns l.player.seat;
  which : l.player.which ≡ l.fn.self.which;
  mine : length (mine l.player.seat) ≡ length (mine l.fn.self.seat) + l.counter;
}
