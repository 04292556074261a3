use Rattle.mode_core.proofs.Timely.{sound_timely}
use Rattle.mode_core.proofs.scheduler.Core.outcome.Goals as goal

pub returns-in-Some-clause-timely : goal.returns-in-Some-clause-timely
returns-in-Some-clause-timely g c = sound_timely c.args.self.now c.outcome_fault.ensures.sound

pub returns-in-None-clause-timely : goal.returns-in-None-clause-timely
returns-in-None-clause-timely g c = sound_timely c.end_tick.new.self c.end_tick.ensures.sound
