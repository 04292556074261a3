use Rattle.std.proofs.Common.{subst, sym}
use Rattle.demand_test.proofs.ReadTasks.{IsNew, named, so_far-push, so_far-pos}
use Rattle.demand_test.proofs.record.record_task.Goals as goal

pub multiple_with-requires-clause-some : goal.multiple_with-requires-clause-some
multiple_with-requires-clause-some c = so_far-pos c.args.before.now c.args.multiple.now c.requires.so_far

pub returns-clause-so_far : goal.returns-clause-so_far
returns-clause-so_far c =
    let new = named c.args.before.now c.field.result.now c.in_ok-name.name c.in_ok-name.ensures in
    so_far-push c.args.before.now c.in_ok-task.task c.args.multiple.now c.in_ok-next.next c.requires.so_far c.if-before-ge128.false
    (subst (IsNew c.args.before.now) (sym c.in_ok-task.ensures.name) new) c.in_ok-task.ensures.small c.in_ok-next.ensures.value
