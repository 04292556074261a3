use Rattle.std.proofs.Common.{◌*◌, refl, arith}
use Rattle.set_gen.specs.GeneratedSet.{low_task}
use Rattle.std.proofs.Math.Nat.{div-le_self}
use Rattle.set_gen.proofs.tasks.low_task.Goals as goal

pub returns-clause-task : goal.returns-clause-task
unfolding low_task
returns-clause-task c = λ name. record { level = refl; period = refl; low = refl; high = refl }

pub returns-clause-small : goal.returns-clause-small
returns-clause-small c = record {
  least = c.requires.least;
  most = c.requires.most;
  low = omega (arith, div-le_self c.args.period (2 * c.args.count), c.requires.most);
  high = omega (arith, div-le_self c.args.period (2 * c.args.count), c.requires.most);
}
