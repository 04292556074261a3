-- How far a scheduling loop has come.
use Rattle.std.proofs.Common.{◌≡◌, ℕ, ◌+◌, ◌*◌, ◌≤◌, length}
use Rattle.mc_model.specs.Rows.{ticks}
use Rattle.mc_model.specs.Core.{State}

-- there are n ticks more, each after at most 128 releases, and nothing else has changed
pub record AddsTicks (n : ℕ) (old new : State) : Type 0 where
  pub stays : new ≡ record old { rows = new.rows }
  pub ticks_are : ticks new.rows ≡ ticks old.rows + n
  pub few : length new.rows ≤ length old.rows + 129 * n
