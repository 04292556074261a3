use Rattle.std.proofs.Common.{sym, ◌∙◌}
use Rattle.mode_core.proofs.Going.{idle_ticks}
use Rattle.mode_core.proofs.Timely.{sound_timely}
use Rattle.mode_core.proofs.scheduler.Core.idle_for.Goals as goal

pub returns-in-Some-clause-timely : goal.returns-in-Some-clause-timely
returns-in-Some-clause-timely g c = sound_timely c.args.self.now c.idles_fault.ensures.sound

pub returns-in-None-clause-timely : goal.returns-in-None-clause-timely
returns-in-None-clause-timely g c = sound_timely c.add_idles.new.self c.add_idles.ensures.sound

pub returns-in-None-clause-ticks : goal.returns-in-None-clause-ticks
returns-in-None-clause-ticks g c = idle_ticks c.args.self.now c.args.count c.idles_fault.ensures.sound (sym c.idles_fault.ensures.value ∙ c.in-None.is)
