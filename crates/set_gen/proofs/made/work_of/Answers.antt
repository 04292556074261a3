use Rattle.work_file.proofs.Accepted.{work-accepted}
use Rattle.set_gen.proofs.made.work_of.Goals as goal

pub unreachable-requires : goal.unreachable-requires
unreachable-requires c =
    absurd (let none = work-accepted c.args.set.now.tasks c.args.rows.items c.len-is_set.ensures.set.each c.requires.work c.requires.few in let some = c.in-Err.ensures.refused in cc)
