use Rattle.std.proofs.Common.{◌≡◌, ℕ, ◌++◌, List, replicate}
use Rattle.mc_task.specs.declared.task.Task.{Task}
use Rattle.mc_task.specs.declared.task.Rule.{Rule}
use Rattle.mc_model.specs.declared.row.Row.{Row}
use Rattle.row_history.proofs.recorder.Recorder.add_run.Given as goal

-- the rows that were added so far, and nothing else
pub record Added {S : Type 0} (rows : S → List Row) (capacity : S → ℕ) (is_for : S → List Task → Rule → Type 0) (old now : S) (row : Row) (i : ℕ) : Type 0 where
  pub rows_are : rows now ≡ replicate i row ++ rows old
  pub capacity_is : capacity now ≡ capacity old
  pub set : (set : List Task) (rule : Rule) → is_for old set rule → is_for now set rule

abbrev pub invariant-loop : goal.invariant-loop
invariant-loop g l = Added g.Self.Recorder.rows g.Self.Recorder.capacity g.Self.Recorder.is_for l.initial.self l.self l.row l.counter
