use Rattle.std.proofs.Common.{rules}
use Rattle.mc_world.proofs.edge.write_piece.Goals as goal

pub returns-clause-flushed : goal.returns-clause-flushed
returns-clause-flushed g c = search rules
