use Rattle.demand_test.proofs.ReadTasks.{so_far-none}
use Rattle.demand_test.proofs.read.DemandRecordsRowReader.header.Goals as goal

pub returns-then-is_header-clause-state : goal.returns-then-is_header-clause-state
returns-then-is_header-clause-state c = so_far-none
