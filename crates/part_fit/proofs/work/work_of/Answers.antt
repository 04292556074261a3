use Rattle.work_file.proofs.Accepted.{work-accepted}
use Rattle.part_fit.proofs.work.work_of.Goals as goal

pub unreachable-requires : goal.unreachable-requires
unreachable-requires c =
    absurd (cc (work-accepted c.args.set.now.tasks c.args.rows.items c.len-is_set.ensures.set.each c.requires.work c.requires.few, c.in-Err.ensures.refused))
