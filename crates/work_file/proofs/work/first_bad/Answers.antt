use Rattle.std.proofs.Common.{rules, arith}
use Rattle.work_file.proofs.work.first_bad.Goals as goal

pub loop-index-init : goal.loop-index-init
loop-index-init c = record {
  bad = search rules;
  tracks = c.new-next.ensures c.args.set.now.tasks;
  work = search rules;
  few = omega arith;
}
