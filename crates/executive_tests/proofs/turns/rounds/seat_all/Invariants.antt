use Rattle.std.proofs.Common.{◌≡◌, ℕ, ◌+◌, ◌<◌, ◌≤◌, length, vec_len, vec_capacity, All, slice_index_or}
use Rattle.executive_tests.specs.declared.turns.counters.Player.{Player}
use Rattle.turnstile.specs.Seats.{IsOf, AreFresh, mine}
use Rattle.executive_tests.proofs.turns.rounds.seat_all.Given as goal

abbrev pub invariant-loop-seat : goal.invariant-loop-seat
invariant-loop-seat l = record {
  few : vec_len l.fn.list ≤ 128;
  fresh : AreFresh l.list.items;
  ours : All (λ s. IsOf l.turns s) l.list.items;
  len : vec_len l.players + vec_len l.list ≡ vec_len l.fn.list;
  room : vec_len l.fn.list ≤ vec_capacity l.players;
  capacity : vec_capacity l.list ≡ vec_capacity l.fn.list;
  players : All (λ p. IsOf l.turns p.seat) l.players.items;
  none : All (λ p. length (mine p.seat) ≡ 0) l.players.items;
  order : (k : ℕ) (d : Player) → k < length l.players.items → (slice_index_or l.players.items k d).which + k + 1 ≡ vec_len l.fn.list;
}

abbrev pub decreases-loop-seat : goal.decreases-loop-seat
decreases-loop-seat l = goal.left-loop-seat l
