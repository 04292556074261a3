use Rattle.std.proofs.Common.{arith}
use Rattle.mode_core.proofs.pending.item.Goals as goal

pub returns : goal.returns
returns c = grind arith
