-- No deadline is missed.
use Rattle.std.specs.Prelude.{◌≡◌, Bool, []}
use Rattle.mc_model.specs.Late.{late}
use Rattle.mc_model.specs.Core.{State, settle}

-- no job is late, by the rows, and none will be after the granted tick has its outcome, whichever that is
pub record IsTimely (s : State) : Type 0 where
  pub now : late s.set s.rows ≡ []
  pub settled : (done : Bool) → late s.set (settle s done) ≡ []
