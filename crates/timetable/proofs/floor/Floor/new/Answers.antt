use Rattle.mode_core.proofs.CallerLemmas.{sound_timely}
use Rattle.timetable.proofs.KeepsPlan.{stored_new}
use Rattle.timetable.proofs.floor.Floor.new.Goals as goal

pub invariant_of-result : goal.invariant_of-result
invariant_of-result c = stored_new c.args.plan c.args.core c.new.result c.requires.rows c.requires.out c.requires.plan c.new.ensures

pub returns-clause-timely : goal.returns-clause-timely
returns-clause-timely c = sound_timely c.args.core c.ticks-sound.ensures.sound
