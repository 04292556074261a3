use Rattle.std.proofs.Common.{◌≡◌, take, reverse}
use Rattle.mode_core.proofs.steps.write_held.Given as goal
use Rattle.mc_model.specs.Core.{add_held}

abbrev pub invariant-loop-job : goal.invariant-loop-job
invariant-loop-job g l = l.log ≡ record l.initial.log { rows = add_held l.initial.log.set l.initial.log.rule (reverse (take l.job-index l.held)) l.initial.log.rows }
