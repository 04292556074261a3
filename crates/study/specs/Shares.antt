-- The sets of a table, in pieces of 128 that threads share.
use Rattle.std.specs.Prelude.{◌≡◌, ℕ, ◌+◌, ◌-◌, ◌*◌, ◌/◌, ◌<◌, min, List, map, slice_index, All}
use Rattle.std.specs.List.{range_with_len}
use Rattle.study.specs.declared.shares.Piece.{Piece}
use Rattle.study.specs.Acceptance.{accept_table}

-- how many pieces of at most 128 sets there are
abbrev pub pieces_of : ℕ → ℕ
pieces_of sets = (sets + 127) / 128

-- how many sets the piece with this number has: 128, except that the last piece has those that are left
abbrev pub sets_at : ℕ → ℕ → ℕ
sets_at sets index = min 128 (sets - 128 * index)

-- the counts of the piece with this number
abbrev pub piece_counts : ℕ → ℕ → ℕ → ℕ → List ℕ
piece_counts number sets n index = accept_table (number + 128 * index) (sets_at sets index) n

-- the piece is one of the sets of n tasks generated from this number on, and has the counts of its sets
pub record IsPieceOf (number sets n : ℕ) (piece : Piece) : Type 0 where
  pub index : piece.index < pieces_of sets
  pub counts : piece.counts ≡ piece_counts number sets n piece.index

-- threads have taken pieces of these sets; which pieces, and whether one was taken twice, is left open
abbrev pub ArePiecesOf : ℕ → ℕ → ℕ → List Piece → Type 0
ArePiecesOf number sets n pieces = All (IsPieceOf number sets n) pieces

-- the sums of two lists of eleven counts, index by index
abbrev pub added : List ℕ → List ℕ → List ℕ
added first second = map (λ k. slice_index first k + slice_index second k) (range_with_len 0 11)
