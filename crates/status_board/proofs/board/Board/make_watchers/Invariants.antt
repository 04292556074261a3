use Rattle.std.proofs.Common.{◌≡◌, ◌≤◌, All, vec_len, vec_capacity}
use Rattle.status_board.specs.Tokens.{shown, IsWriterOf, IsFresh}
use Rattle.status_board.proofs.board.Board.make_watchers.Given as goal

abbrev pub invariant-loop-place : goal.invariant-loop-place
invariant-loop-place l = record {
  of : IsWriterOf l.self l.writer;
  shown : shown l.writer ≡ shown l.fn.writer;
  len : vec_len l.list ≡ l._place;
  room : l.watchers ≤ vec_capacity l.list;
  fresh : All (IsFresh l.self) l.list.items;
}
