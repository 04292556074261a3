-- A task has at most one pending job.
use Rattle.std.specs.Prelude.{◌≡◌, ℕ, ◌≤◌, Bool}
use Rattle.mc_model.specs.Pending.{pending}
use Rattle.mc_model.specs.Core.{State, begun, next, settle}
use Rattle.demand_law.specs.OneLive.{pending_of, AtMostOne}

-- each task has at most one pending job, now and after the granted tick has its outcome; and after that
-- outcome it has none if it may be released
pub record IsOneLive (s : State) : Type 0 where
  pub now : AtMostOne s.set s.rows
  pub settled : (done : Bool) → AtMostOne s.set (settle s done)
  pub at_release : (done : Bool) (k : ℕ) → next s k ≤ begun s
      → pending_of k (pending s.set (settle s done)) ≡ 0
