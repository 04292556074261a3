use Rattle.std.proofs.Common.{◌==◌, refl, arith, eq-eqb, ne_eqb}
use Rattle.std.proofs.lemmas.List.Sums.{count_by_more_yes, count_by_more_no}
use Rattle.part_fit.proofs.Numbers.{numbers-next}
use Rattle.part_fit.proofs.work.numbers_on.Goals as goal
use Rattle.part_fit.proofs.work.numbers_on.Goals.{then-of-i+in_ok-push, else-of-i+in_ok-push-2}

pub loop-i-init : goal.loop-i-init
loop-i-init c = record { numbers = c.new-numbers.ensures.items; last = refl; small = omega arith }

pub loop-i-preserved : goal.loop-i-preserved
loop-i-preserved c =
    let i = c.loop-i.i in
    let inv = c.loop-i.invariant in
    let next = numbers-next c.args.processor c.args.of.now i c.loop-i-test.true in
    elim c.if-of-i.branch [
      | then-of-i+in_ok-push w ↦
          let on = eq-eqb _ _ w.if-of-i.true in
          record {
            numbers = rw (w.numbers-is, w.in_ok-push.ensures.items, next, on, inv.numbers, inv.last) refl;
            last = omega (arith, w.last-is, count_by_more_yes (λ p. p == c.args.processor) c.args.of.now i 0 c.loop-i-test.true on);
            small = omega (arith, w.last-is);
          }
      | else-of-i+in_ok-push-2 w ↦
          let off = ne_eqb _ _ w.if-of-i.false in
          record {
            numbers = rw (w.numbers-is, w.in_ok-push-2.ensures.items, next, off, inv.numbers) refl;
            last = omega (arith, w.last-is, count_by_more_no (λ p. p == c.args.processor) c.args.of.now i 0 c.loop-i-test.true off);
            small = omega (arith, w.last-is);
          }
    ]
