use Rattle.mode_core.proofs.Timely.{sound_timely}
use Rattle.mode_core.proofs.scheduler.Core.release.Goals as goal

pub returns-in-Some-clause-timely : goal.returns-in-Some-clause-timely
returns-in-Some-clause-timely g c = sound_timely c.args.self.now c.release_fault.ensures.sound

pub returns-in-None-clause-timely : goal.returns-in-None-clause-timely
returns-in-None-clause-timely g c = sound_timely c.take_release.new.self c.take_release.ensures.sound
