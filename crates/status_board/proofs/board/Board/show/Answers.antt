use Rattle.std.proofs.Common.{rules, sym, subst}
use mathlib.Core.Option.{none}
use Rattle.atomic_table.specs.Table.{step, Allows}
use Rattle.status_board.specs.Rule.{Orderly}
use Rattle.status_board.specs.Steps.{Shows}
use Rattle.status_board.proofs.Steps.{shows}
use Rattle.status_board.proofs.board.Board.show.Goals as goal

pub store-requires : goal.store-requires
store-requires c =
    let seat = c.args.writer.now.seat in
    let n = c.args.self.now.table.shared.table_id.slots in (
      c.requires.of,
      search rules,
      subst (λ k. Allows Orderly n seat.id seat.me 0 (λ _. k) (λ _. Shows (step n 0 k 0 none) seat.me k)) (sym c.word.ensures)
          (shows n seat.id seat.me c.args.now c.args.writer.now.writes.0 c.args.writer.now.writes.1 c.requires.next),
    )
