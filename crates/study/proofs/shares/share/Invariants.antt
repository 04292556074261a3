use Rattle.study.specs.Shares.{ArePiecesOf}
use Rattle.study.proofs.shares.share.Given as goal

abbrev pub invariant-loop-turn : goal.invariant-loop-turn
invariant-loop-turn l = ArePiecesOf l.number l.sets l.tasks l.pieces.items
