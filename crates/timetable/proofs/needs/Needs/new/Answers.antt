use Rattle.timetable.proofs.NeedsLemmas.{tracks_start}
use Rattle.timetable.proofs.needs.Needs.new.Goals as goal

pub returns : goal.returns
returns c work i h = tracks_start work i h
