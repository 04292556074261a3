-- The deadline laws, for a core's rows without an overrun.
use Rattle.mc_model.specs.Core.{State}
use Rattle.demand_law.specs.NoOver.{NoOver, NoDrop, EndedInTime}
use Rattle.demand_law.proofs.NoOver.{no_drop, ended_in_time}
use Rattle.mode_core.specs.Shape.{IsSound}

-- without an overrun no release was dropped
pub sound_kept : (t : State) → IsSound t → NoOver t.rows → NoDrop t.rows
sound_kept t sound none = no_drop t.set t.rule t.rows sound.good.legal none

-- without an overrun each job whose deadline has come has ended by it
pub sound_ended : (t : State) → IsSound t → NoOver t.rows → EndedInTime t.set t.rows
sound_ended t sound none = ended_in_time t.set t.rule t.rows sound.tasks.each sound.holds sound.good.legal none
