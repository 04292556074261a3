use Rattle.std.proofs.Common.{rules}
use Rattle.demand_test.proofs.ListedTasks.{file_taken, file_refused}
use Rattle.demand_test.proofs.demand.DemandSet.new.Goals as goal

pub returns-in_err-multiple-clause-file : goal.returns-in_err-multiple-clause-file
returns-in_err-multiple-clause-file c = file_refused c.args.tasks.items c.from_residual.result c.from_residual.ensures.0 (search rules)

pub returns-clause-file : goal.returns-clause-file
returns-clause-file c = λ text is. file_taken c.args.tasks.items text (search rules) is
