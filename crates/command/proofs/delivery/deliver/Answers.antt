use Rattle.std.proofs.Common.{rules}
use Rattle.command.proofs.delivery.deliver.Goals as goal

pub returns-in-Err : goal.returns-in-Err
returns-in-Err g c = search rules
