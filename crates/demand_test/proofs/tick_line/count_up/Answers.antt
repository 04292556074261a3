use Rattle.std.proofs.Common.{◌≡◌, ℕ, ◌+◌, ◌-◌, get_or, refl, subst, arith}
use Rattle.demand_test.proofs.NextNumber.{Counted, counted_nine, counted_digit}
use Rattle.demand_test.proofs.tick_line.count_up.Goals as goal

pub loop-at-preserved : goal.loop-at-preserved
loop-at-preserved c =
    let on : c.loop-at.at ≡ c.loop-at.at - 1 + 1 = omega (arith, c.loop-at-test.true) in
    let upto = subst (λ (n : ℕ). Counted c.args.digits.now c.loop-at.digits n) on c.loop-at.invariant in
    counted_nine c.args.digits.now c.loop-at.digits (c.loop-at.at - 1) (get_or c.loop-at.digits (c.loop-at.at - 1) 0) upto refl
    (omega (arith, c.if-digit-lt57.false, c.if-digit-gt57.false))

pub returns-then-digit-lt57-clause-next : goal.returns-then-digit-lt57-clause-next
returns-then-digit-lt57-clause-next c = λ yes.
    let on : c.loop-at.at ≡ c.loop-at.at - 1 + 1 = omega (arith, c.loop-at-test.true) in
    let upto = subst (λ (n : ℕ). Counted c.args.digits.now c.loop-at.digits n) on c.loop-at.invariant in
    counted_digit c.args.digits.now c.loop-at.digits (c.loop-at.at - 1) (get_or c.loop-at.digits (c.loop-at.at - 1) 0) upto refl c.if-digit-lt57.true
