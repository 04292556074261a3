use Rattle.std.proofs.Common.{rules}
use Rattle.run_commands.proofs.planned.opened.Goals as goal

pub returns-clause-opening : goal.returns-clause-opening
returns-clause-opening c = search rules
