use Rattle.std.proofs.Common.{◌<◌, length, arith}
use Rattle.std.proofs.lemmas.List.{get_or_default}
use Rattle.std.proofs.lemmas.List.Edits.{map_over_more}
use Rattle.ready_queue.specs.Tree.{rekeyed}
use Rattle.ready_queue.proofs.tree.rekey_leaves.Goals as goal

pub loop-leaf-preserved : goal.loop-leaf-preserved
loop-leaf-preserved c =
    let within : c.loop-leaf.leaf-index < length c.loop-leaf.leaves = omega arith in
    rw c.rekeyed.ensures (map_over_more rekeyed c.args.leaves.now c.loop-leaf.leaves c.loop-leaf.leaf-index _ (omega arith) c.loop-leaf.invariant (get_or_default c.loop-leaf.leaves c.loop-leaf.leaf-index _ _ within))
