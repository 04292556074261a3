use Rattle.std.proofs.Common.{arith}
use Rattle.work_file.proofs.read.WorkRecordsRowReader.header.Goals as goal

pub returns-then-is_header-clause-state : goal.returns-then-is_header-clause-state
returns-then-is_header-clause-state c = record { few = omega arith; tracks = c.new.ensures c.args.self.now.set.now.tasks; work = tt }
