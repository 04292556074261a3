use Rattle.std.proofs.Common.{◌≡◌, ◌++◌, take, drop, map}
use Rattle.ready_queue.specs.Tree.{rekeyed}
use Rattle.ready_queue.proofs.tree.rekey_leaves.Given as goal

abbrev pub invariant-loop-leaf : goal.invariant-loop-leaf
invariant-loop-leaf l = l.leaves ≡ map rekeyed (take l.leaf-index l.initial.leaves) ++ drop l.leaf-index l.initial.leaves
