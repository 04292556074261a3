use Rattle.std.proofs.Common.{◌≡◌, ◌+◌, [], ◌∷◌, ◌++◌, length, sym, subst, ap, ◌∙◌, arith}
use Rattle.std.proofs.lemmas.List.{length-append}
use Rattle.sensitivity.specs.Budgets.{AreGreatestOf}
use Rattle.sensitivity.proofs.Budgets.{each_more}
use Rattle.sensitivity.proofs.budget.greatest_budgets.Goals as goal

pub loop-i-preserved : goal.loop-i-preserved
loop-i-preserved c =
    let items : c.push.new.self.items ≡ c.loop-i.budgets.items ++ c.greatest_of.result ∷ [] = c.in-Ok.ensures.items in
    let long : length c.push.new.self.items ≡ length c.loop-i.budgets.items + 1 = ap length items ∙ length-append c.loop-i.budgets.items (c.greatest_of.result ∷ []) in
    let here : AreGreatestOf c.args.set.now.tasks (length c.loop-i.budgets.items + 1) c.greatest_of.result =
    subst (λ k. AreGreatestOf c.args.set.now.tasks (k + 1) c.greatest_of.result) (sym c.loop-i.invariant.count) c.greatest_of.ensures in
    record {
      count = omega (arith, long, c.loop-i.invariant.count);
      each = λ k g at.
          each_more (λ j w. AreGreatestOf c.args.set.now.tasks (j + 1) w) c.loop-i.budgets.items c.greatest_of.result c.loop-i.invariant.each here k g (rw items at at);
    }
