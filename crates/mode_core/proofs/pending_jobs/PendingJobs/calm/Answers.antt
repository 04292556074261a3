use Rattle.std.proofs.Common.{arith}
use Rattle.mode_core.proofs.pending_jobs.PendingJobs.calm.Goals as goal

pub returns : goal.returns
returns c = grind arith
