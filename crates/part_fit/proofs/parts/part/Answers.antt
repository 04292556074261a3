use Rattle.std.proofs.Common.{◌≤◌, length, arith}
use Rattle.std.proofs.lemmas.Bool.Decides.{eqb_tells}
use Rattle.part_fit.proofs.Sublists.{part_of-AreTasks}
use Rattle.part_fit.proofs.parts.part.Goals as goal

pub of_valid-requires : goal.of_valid-requires
of_valid-requires c =
    let some : 1 ≤ length c.in_ok-tasks.tasks.items = grind (arith, eqb_tells, c.if-is_empty.ensures) in
    rw c.in_ok-tasks.ensures (part_of-AreTasks c.args.set.now.tasks c.deref.result.now c.args.processor c.len-is_set.ensures.set (rw c.in_ok-tasks.ensures at some))
