use Rattle.std.proofs.Common.{arith}
use Rattle.mc_model.specs.Loads.{low_low, high_low, high_high}
use Rattle.mc_model.proofs.Walk.{load_more}
use Rattle.load_sum.proofs.loads.loads_over.Goals as goal

pub loop-i-preserved : goal.loop-i-preserved
loop-i-preserved c = record {
  low_low = rw (c.share-low_low.ensures.value, c.by_level.ensures) (load_more low_low c.args.lcm c.args.set.now.tasks c.loop-i.i c.task_at-t.result _ _ c.task_at-t.ensures c.loop-i.invariant.low_low);
  high_low = rw (c.share-high_low.ensures.value, c.by_level-in-loop-i.ensures) (load_more high_low c.args.lcm c.args.set.now.tasks c.loop-i.i c.task_at-t.result _ _ c.task_at-t.ensures c.loop-i.invariant.high_low);
  high_high = rw (c.share-high_high.ensures.value, c.by_level-in-loop-i-2.ensures) (load_more high_high c.args.lcm c.args.set.now.tasks c.loop-i.i c.task_at-t.result _ _ c.task_at-t.ensures c.loop-i.invariant.high_high);
  low_low_small = omega arith;
  high_low_small = omega arith;
  high_high_small = omega arith;
}
