use Rattle.std.proofs.Common.{arith}
use Rattle.std.proofs.lemmas.Grind.{elements}
use Rattle.mode_core.proofs.pending_jobs.PendingJobs.tick.Goals as goal

pub returns-clause-answer : goal.returns-clause-answer
returns-clause-answer c = grind (arith, elements)
