-- How a live schedule is kept.
use Rattle.std.specs.Prelude.{◌≡◌, ℕ, List, Option, None, IfSome}
use Rattle.mc_model.specs.declared.row.Row.{Row}
use Rattle.mc_model.specs.Rows.{ticks}
use Rattle.trace_judge.specs.Watched.{Watches}
use Rattle.calling_examples.specs.declared.live.Live.TheInside.{Inside}
use Rattle.calling_examples.specs.Live.{rows_text, LiveRows}

-- the rows so far
abbrev pub rows_of_live : {W : Type 0} → Inside W → List Row
rows_of_live a = a.rows

-- what contracts see, where these bytes were written
abbrev pub live_rows : {W : Type 0} → Option (List ℕ) → Inside W → LiveRows
live_rows written a = record {
  set = a.monitor.set.tasks;
  rule = a.monitor.rule;
  rows = rows_of_live a;
  written = written;
  stop = a.stop;
}

-- the clock is that of the rows; and until the schedule stops, the monitor has seen the rows, and their text was
-- written
pub record IsLive {W : Type 0} (written : Option (List ℕ)) (a : Inside W) : Type 0 where
  pub set : a.set ≡ a.monitor.set
  pub clock : a.ticks ≡ ticks (rows_of_live a)
  pub watched : a.stop ≡ None → Watches (rows_of_live a) a.monitor
  pub text : a.stop ≡ None → IfSome written (λ bytes. bytes ≡ rows_text a.set.tasks (rows_of_live a))
