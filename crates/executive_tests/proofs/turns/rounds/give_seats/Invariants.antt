use Rattle.std.proofs.Common.{◌≡◌, ◌≤◌, vec_len, vec_capacity, map}
use Rattle.executive_tests.proofs.turns.rounds.give_seats.Given as goal

abbrev pub invariant-loop-player : goal.invariant-loop-player
invariant-loop-player l = record {
  seats : l.list.items ≡ map (λ p. p.seat) l.yielded;
  room : vec_len l.fn.players ≤ vec_capacity l.list;
}
