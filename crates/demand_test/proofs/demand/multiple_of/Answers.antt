use Rattle.std.proofs.Common.{refl}
use Rattle.demand_test.proofs.ReadTasks.{so_far-none}
use Rattle.demand_test.proofs.demand.multiple_of.Goals as goal

pub loop-i-init : goal.loop-i-init
loop-i-init c = record { rest = refl; so_far = so_far-none }
