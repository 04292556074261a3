use Rattle.std.proofs.Common.{◌≡◌, ◌+◌, ℕ, length, Some, slice_get}
use Rattle.sensitivity.specs.declared.budget.GreatestBudgets.{GreatestBudgets}
use Rattle.sensitivity.specs.Budgets.{AreGreatestOf}
use Rattle.sensitivity.proofs.budget.greatest_budgets.Given as goal

abbrev pub invariant-loop-i : goal.invariant-loop-i
invariant-loop-i l = record {
  count : length l.budgets.items ≡ l.i;
  each : (k : ℕ) (g : GreatestBudgets) → slice_get l.budgets.items k ≡ Some g → AreGreatestOf l.fn.set.tasks (k + 1) g;
}
