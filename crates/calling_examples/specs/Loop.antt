-- What the steps of a scheduling loop add to a core. The newest row stands first.
use Rattle.std.specs.Prelude.{◌≡◌, ℕ, ◌+◌, ◌≤◌, length}
use Rattle.mc_model.specs.Rows.{ticks}
use Rattle.mc_model.specs.Core.{State}

-- there are at most n releases more, and nothing else has changed
pub record AddsReleases (n : ℕ) (old new : State) : Type 0 where
  pub stays : new ≡ record old { rows = new.rows }
  pub no_tick : ticks new.rows ≡ ticks old.rows
  pub few : length new.rows ≤ length old.rows + n

-- there is one tick more, and nothing else has changed
pub record AddsTick (old new : State) : Type 0 where
  pub stays : new ≡ record old { rows = new.rows }
  pub one_tick : ticks new.rows ≡ ticks old.rows + 1
  pub one_row : length new.rows ≡ length old.rows + 1
