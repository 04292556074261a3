use Rattle.std.proofs.Common.{◌≡◌, ◌+◌, ◌-◌, ◌<◌, ◌≤◌, ℕ, true, false}
use Rattle.sensitivity.specs.Budgets.{is_admitted_with, least_of, most_of}
use Rattle.sensitivity.proofs.budget.greatest.Given as goal

abbrev pub invariant-loop-low : goal.invariant-loop-low
invariant-loop-low l = record {
  order : l.low ≤ l.high;
  least : least_of l.which l.t ≤ l.low;
  most : l.high ≤ most_of l.which l.t + 1;
  admitted : (b : ℕ) → least_of l.which l.t ≤ b → b < l.low → is_admitted_with l.which l.set.tasks l.task.0 b ≡ true;
  refused : (b : ℕ) → l.high ≤ b → b ≤ most_of l.which l.t → is_admitted_with l.which l.set.tasks l.task.0 b ≡ false;
}

abbrev pub decreases-loop-low : goal.decreases-loop-low
decreases-loop-low l = l.high - l.low
