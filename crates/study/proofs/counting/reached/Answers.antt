use Rattle.std.proofs.Common.{◌≡◌, ◌+◌, arith, length}
use Rattle.std.specs.List.{range_with_len}
use Rattle.std.proofs.lemmas.List.FromFn.{length-range_with_len}
use Rattle.std.proofs.lemmas.Slice.Zip.{AllZip-long}
use Rattle.study.specs.Acceptance.{generated_stretch}
use Rattle.study.specs.Levels.{IsReached}
use Rattle.study.proofs.Tables.{reached-more}
use Rattle.study.proofs.counting.reached.Goals as goal

pub push-requires : goal.push-requires
push-requires c =
    let long : length c.loop-i.reached.items ≡ length (range_with_len 0 c.loop-i.i) =
    AllZip-long (λ i k. IsReached (generated_stretch (c.args.number + i) c.args.tasks) k) (range_with_len 0 c.loop-i.i) c.loop-i.reached.items c.loop-i.invariant in
    (omega arith, omega (arith, long, length-range_with_len 0 c.loop-i.i, c.loop-i-test.true, c.requires.few_sets))

pub loop-i-preserved : goal.loop-i-preserved
loop-i-preserved c =
    reached-more (λ i. generated_stretch (c.args.number + i) c.args.tasks) c.loop-i.i c.levels_passed.result c.loop-i.reached.items c.push.new.self.items c.loop-i.invariant
    (rw c.from.ensures at c.levels_passed.ensures) c.push.ensures.items
