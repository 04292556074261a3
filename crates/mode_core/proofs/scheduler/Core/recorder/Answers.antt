use Rattle.std.proofs.Common.{subst}
use Rattle.mc_model.specs.Core.{State}
use Rattle.mc_model.specs.Legal.{Legal}
use Rattle.mode_core.specs.Timely.{IsTimely}
use Rattle.mode_core.specs.OneLive.{IsOneLive}
use Rattle.mode_core.proofs.Timely.{sound_timely, sound_one_live}
use Rattle.mode_core.proofs.scheduler.Core.recorder.Goals as goal

pub returns-clause-legal : goal.returns-clause-legal
returns-clause-legal g c = subst (λ (s : State). Legal s.set s.rule s.rows) c.self.view_is c.self.invariant.sound.good.legal

pub returns-clause-timely : goal.returns-clause-timely
returns-clause-timely g c = subst IsTimely c.self.view_is (sound_timely _ c.self.invariant.sound)

pub returns-clause-one_live : goal.returns-clause-one_live
returns-clause-one_live g c = subst IsOneLive c.self.view_is (sound_one_live _ c.self.invariant.sound)
