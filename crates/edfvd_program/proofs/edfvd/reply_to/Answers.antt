use Rattle.std.proofs.Common.{rules}
use Rattle.edfvd_program.proofs.edfvd.reply_to.Goals as goal

pub returns-in-Ok-clause-reply : goal.returns-in-Ok-clause-reply
returns-in-Ok-clause-reply g c = search rules

pub returns-in_default-clause-reply : goal.returns-in_default-clause-reply
returns-in_default-clause-reply g c = search rules
