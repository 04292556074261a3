use Rattle.std.proofs.Common.{◌*◌, refl, arith}
use Rattle.set_gen.specs.GeneratedSet.{high_task}
use Rattle.std.proofs.Math.Nat.{div-le_self}
use Rattle.set_gen.proofs.Drawn.{low-within}
use Rattle.set_gen.proofs.tasks.high_task.Goals as goal

pub returns-clause-task : goal.returns-clause-task
unfolding high_task
returns-clause-task c = λ name. record { level = refl; period = refl; low = refl; high = refl }

pub returns-clause-small : goal.returns-clause-small
returns-clause-small c = record {
  least = c.requires.least;
  most = c.requires.most;
  low = low-within c.args.period (4 * c.args.count) c.args.word c.requires.least c.requires.most (omega (arith, c.requires.some)) (omega (arith, c.requires.few));
  high = omega (arith, div-le_self (3 * c.args.period) (4 * c.args.count), c.requires.most);
}
