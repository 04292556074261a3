use Rattle.std.proofs.Common.{sym, ◌∙◌}
use Rattle.mode_core.proofs.Going.{run_ticks}
use Rattle.mode_core.proofs.Timely.{sound_timely}
use Rattle.mode_core.proofs.scheduler.Core.run.Goals as goal

pub returns-in-Some-clause-timely : goal.returns-in-Some-clause-timely
returns-in-Some-clause-timely g c = sound_timely c.args.self.now c.run_fault.ensures.sound

pub returns-in-None-clause-timely : goal.returns-in-None-clause-timely
returns-in-None-clause-timely g c = sound_timely c.run_on.new.self c.run_on.ensures.sound

pub returns-in-None-clause-ticks : goal.returns-in-None-clause-ticks
returns-in-None-clause-ticks g c = run_ticks c.args.self.now c.args.job c.args.ticks c.run_fault.ensures.sound (sym c.run_fault.ensures.value ∙ c.in-None.is)
