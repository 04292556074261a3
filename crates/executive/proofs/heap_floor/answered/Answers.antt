use Rattle.std.proofs.Common.{rules}
use Rattle.executive.proofs.heap_floor.answered.Goals as goal

pub returns-clause-answer : goal.returns-clause-answer
returns-clause-answer c = search rules
