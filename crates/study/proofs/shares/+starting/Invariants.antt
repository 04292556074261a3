use Rattle.std.proofs.Common.{◌+◌, ◌*◌}
use Rattle.study.proofs.shares.+starting.Given as goal

abbrev pub decreases-pieces : goal.decreases-pieces
decreases-pieces g l = 2 * l.others + 1

abbrev pub decreases-rest : goal.decreases-rest
decreases-rest g l = 2 * l.others
