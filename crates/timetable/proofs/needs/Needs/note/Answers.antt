use Rattle.std.proofs.Common.{rules, ◌≡◌, length}
use Rattle.timetable.proofs.NeedsLemmas.{tracks_noted}
use Rattle.timetable.proofs.needs.Needs.note.Goals as goal

pub returns : goal.returns
returns c work taken tracks row i h =
    let len : length c.args.self.now.needs ≡ 128 = search rules in
    tracks_noted work taken c.args.row c.args.self.now.needs len tracks row c.requires.first c.requires.last i h
