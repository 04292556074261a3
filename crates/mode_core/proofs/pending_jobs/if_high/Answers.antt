use Rattle.std.proofs.Common.{arith}
use Rattle.mode_core.proofs.pending_jobs.if_high.Goals as goal

pub returns-else-is_high : goal.returns-else-is_high
returns-else-is_high c = grind arith
