use Rattle.std.proofs.lemmas.Slice.Zip.{all_zipped_more}
use Rattle.part_commands.specs.Planned.{parted_of, IsPlannedOn}
use Rattle.part_commands.proofs.floors.PartFloors.add.Goals as goal

pub returns-clause-planned : goal.returns-clause-planned
returns-clause-planned c =
    let planned = IsPlannedOn c.args.ticks.now (parted_of c.args.job.now.parted) c.args.job.now.work in
    let more = all_zipped_more planned c.args.self.now.used.items c.args.self.now.sides.items c.args.processor c.in_ok-side.side c.requires.planned c.in_ok-side.ensures in
    rw (c.in_ok-push-2.ensures.items, c.in_ok-push.ensures.items) more
