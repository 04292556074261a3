use Rattle.std.proofs.Common.{rules}
use Rattle.edfvd_c.proofs.scheduler.edfvd_raw_scheduler_release.Goals as goal

pub returns-clause-does : goal.returns-clause-does
returns-clause-does c = search rules
