-- Boards by the names of their tables: a plain value by which a caller's own type can name a board.
use Rattle.std.specs.Prelude.{ℕ, List}
use Rattle.std.specs.Coded.{Coded, code_by, coded_ℕ, coded_list, coded×}
use Rattle.atomic_table.specs.Seated.{TableId}
use Rattle.status_board.specs.declared.shown.BoardId.{BoardId}

-- the name of a table
abbrev pub id_of : TableId → BoardId
id_of t = record {
  words = t.words;
  slots = t.slots;
  views_name = t.views_name;
  atom = t.atom;
  block = t.block;
  offset = t.offset;
  slot_names = t.slot_names;
}

-- board names have codes, so any two proofs that two names are equal are equal
abbrev pub board_id_coded : Coded BoardId
board_id_coded =
    code_by (ℕ × (ℕ × (ℕ × (ℕ × (ℕ × (ℕ × List ℕ))))))
    (coded× coded_ℕ (coded× coded_ℕ
    (coded× coded_ℕ (coded× coded_ℕ (coded× coded_ℕ (coded× coded_ℕ (coded_list coded_ℕ)))))))
    (λ b. (b.words, (b.slots, (b.views_name, (b.atom, (b.block, (b.offset, b.slot_names)))))))
    (λ t. record {
      words = t.0;
      slots = t.1.0;
      views_name = t.1.1.0;
      atom = t.1.1.1.0;
      block = t.1.1.1.1.0;
      offset = t.1.1.1.1.1.0;
      slot_names = t.1.1.1.1.1.1;
    })
    (λ b k. b)
