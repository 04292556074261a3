use Rattle.std.proofs.Common.{rules, ◌<◌, length}
use Rattle.work_file.proofs.NextLemmas.{noted}
use Rattle.work_file.proofs.next.NextReleases.note.Goals as goal

pub returns : goal.returns
returns c before tracks i h =
    let inside : c.place_of.result < length c.args.self.now.next = search rules in
    rw c.period_of.ensures (noted c.args.set.now.tasks before c.args.row c.args.self.now.next c.place_of.result inside c.place_of.ensures.place tracks i h)
