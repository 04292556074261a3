use Rattle.std.proofs.Common.{ℕ, ◌+◌, ◌<◌, length, sym, subst, arith}
use Rattle.std.proofs.Math.ListN.{set}
use Rattle.edfvd_c.specs.declared.sets.margins.CBudgets.{CBudgets}
use Rattle.edfvd_c.specs.Sets.Margins.{IsGreatestAt}
use Rattle.edfvd_c.proofs.sets.Greatest.{AreOf-length, greatest_more}
use Rattle.edfvd_c.proofs.sets.margins.store_greatest.Goals as goal

pub loop-i-preserved : goal.loop-i-preserved
loop-i-preserved c =
    let tasks = c.args.loaded.now.set.tasks in
    let long = AreOf-length c.args.given.now tasks c.requires.tasks.numbers in
    let inside : c.loop-i.i < length c.loop-i.budgets = omega (arith, long) in
    subst (λ (b : CBudgets). (k : ℕ) → k < c.loop-i.i + 1 → IsGreatestAt tasks (set c.loop-i.budgets c.loop-i.i b) k) (sym c.budgets_in_numbers.ensures)
    (greatest_more tasks c.loop-i.budgets c.loop-i.i c.greatest_of.result inside c.greatest_of.ensures c.loop-i.invariant)
