use Rattle.status_board.proofs.Steps.{starts}
use Rattle.status_board.proofs.board.Board.new.Goals as goal

pub of_words-requires : goal.of_words-requires
of_words-requires c = starts
