use Rattle.std.proofs.Common.{rules}
use Rattle.edfvd_c.proofs.sets.demand.edfvd_raw_demand.Goals as goal

pub returns-in-Err-clause-tested : goal.returns-in-Err-clause-tested
returns-in-Err-clause-tested c = search rules
