use Rattle.std.proofs.Common.{◌<◌, ◌^◌, arith}
use Rattle.std.proofs.lemmas.Bool.{false≢true}
use Rattle.set_gen.specs.GeneratedSet.{task_name}
use Rattle.set_gen.proofs.GeneratedTasks.{task_name-is_name}
use Rattle.set_gen.proofs.tasks.name_of.Goals as goal

pub unreachable-requires : goal.unreachable-requires
unfolding task_name
unreachable-requires c =
    let small : c.args.number < 2 ^ 32 = omega arith in
    absurd (false≢true (c.in-None.ensures.form.1 (rw (c.as_bytes.ensures.value, c.in_ok-text.ensures.ok) (task_name-is_name c.args.number small))))
