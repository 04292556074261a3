use Rattle.std.proofs.Common.{◌≡◌, ◌≤◌, Some, map, length, vec_len, vec_capacity}
use Rattle.executive.specs.Closing.{seat_of}
use Rattle.executive.proofs.closing.give_seats.Given as goal

abbrev pub invariant-loop-pass : goal.invariant-loop-pass
invariant-loop-pass l = record {
  len : vec_len l.list ≡ length l.yielded;
  room : vec_len l.fn.passes ≤ vec_capacity l.list;
  same : map (λ s. Some s) l.list.items ≡ map seat_of l.yielded;
}
