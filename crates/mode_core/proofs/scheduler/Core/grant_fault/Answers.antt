use Rattle.std.proofs.Common.{arith}
use Rattle.mode_core.proofs.scheduler.Core.grant_fault.Goals as goal

pub returns-then-not-is_of_task-clause-value : goal.returns-then-not-is_of_task-clause-value
returns-then-not-is_of_task-clause-value g c = grind arith
