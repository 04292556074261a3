-- What the deadline laws say of a sound state: its rows are legal under a rule that holds, and so are the
-- rows that each outcome of the granted tick would leave.
use Rattle.std.proofs.Common.{ℕ, arith}
use Rattle.demand_law.proofs.Laws.{none_late, at_most_one, none_at_release}
use Rattle.mc_model.specs.Core.{State, settle}
use Rattle.mode_core.specs.Shape.{IsSoundUpTo}
use Rattle.mode_core.specs.Timely.{IsTimely}
use Rattle.mode_core.specs.OneLive.{IsOneLive}
use Rattle.mode_core.proofs.Held.{IsSettled, settled_words}

-- no job is late
pub sound_timely : {n : ℕ} (s : State) → IsSoundUpTo n s → IsTimely s
sound_timely s sound = record {
  now = none_late s.set s.rule s.rows sound.tasks.each sound.holds sound.good.legal;
  settled = λ done. none_late s.set s.rule (settle s done) sound.tasks.each sound.holds (sound.good.settled done);
}

-- no task has two pending jobs in a sound state
pub sound_one_live : {n : ℕ} (s : State) → IsSoundUpTo n s → IsOneLive s
sound_one_live s sound = record {
  now = at_most_one s.set s.rule s.rows sound.tasks.each sound.holds sound.good.legal;
  settled = λ done. at_most_one s.set s.rule (settle s done) sound.tasks.each sound.holds (sound.good.settled done);
  at_release = λ done k n.
      let w : IsSettled s.set s.rule s.rows s.out s.held done = settled_words s.set s.rule s.rows s.out s.held done sound.good.out in
      none_at_release s.set s.rule (settle s done) sound.tasks.each sound.holds (sound.good.settled done) k (omega (arith, w.ticks, w.next k, n));
}
