use Rattle.std.proofs.Common.{◌≡◌, ℕ, ◌+◌, ◌/◌, ◌≤◌, true, false, sym, ◌∙◌, arith}
use Rattle.std.proofs.lemmas.Bool.{false≢true}
use Rattle.sensitivity.specs.Budgets.{is_admitted_with, least_of}
use Rattle.sensitivity.proofs.Budgets.{less-admitted}
use Rattle.sensitivity.proofs.Admitted.{false-unless}
use Rattle.sensitivity.proofs.budget.greatest.Goals as goal

pub loop-low-preserved-then-admits : goal.loop-low-preserved-then-admits
loop-low-preserved-then-admits c =
    let middle : ℕ = (c.loop-low.low + c.loop-low.high) / 2 in
    let here : is_admitted_with c.args.which c.args.set.now.tasks c.args.task.0 middle ≡ true = sym c.admits.ensures ∙ c.if-admits.true in
    record {
      order = omega (arith, c.loop-low-test.true);
      least = omega (arith, c.loop-low-test.true, c.loop-low.invariant.least);
      most = c.loop-low.invariant.most;
      admitted = λ b least below.
          less-admitted c.args.which c.args.set.now.tasks c.args.task.0 c.args.t.now b middle c.requires.task (omega (arith, below)) here;
      refused = c.loop-low.invariant.refused;
    }

pub loop-low-preserved : goal.loop-low-preserved
loop-low-preserved c =
    let middle : ℕ = (c.loop-low.low + c.loop-low.high) / 2 in
    let here : is_admitted_with c.args.which c.args.set.now.tasks c.args.task.0 middle ≡ false = sym c.admits.ensures ∙ c.if-admits.false in
    let least : least_of c.args.which c.args.t.now ≤ middle = omega (arith, c.loop-low-test.true, c.loop-low.invariant.least) in
    record {
      order = omega (arith, c.loop-low-test.true);
      least = c.loop-low.invariant.least;
      most = omega (arith, c.loop-low-test.true, c.loop-low.invariant.most);
      admitted = c.loop-low.invariant.admitted;
      refused = λ b above most.
          false-unless (is_admitted_with c.args.which c.args.set.now.tasks c.args.task.0 b) (λ admitted.
          false≢true
          (sym here
          ∙ less-admitted c.args.which c.args.set.now.tasks c.args.task.0 c.args.t.now middle b c.requires.task above admitted));
    }
