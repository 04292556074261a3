use Rattle.std.proofs.Common.{◌<◌, ℕ}
use Rattle.edfvd_c.specs.Sets.Margins.{IsGreatestAt}
use Rattle.edfvd_c.proofs.sets.margins.store_greatest.Given as goal

abbrev pub invariant-loop-i : goal.invariant-loop-i
invariant-loop-i l = (k : ℕ) → k < l.i → IsGreatestAt l.fn.loaded.set.tasks l.budgets k
