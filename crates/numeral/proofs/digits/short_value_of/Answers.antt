use Rattle.std.proofs.Common.{◌≡◌, ◌+◌, ◌*◌, ◌^◌, List, ℕ, true, ◌∷◌, length, drop, get_or, subst, arith}
use Rattle.std.specs.List.{list_all}
use Rattle.std.proofs.lemmas.Bool.Decides.{nat_tests}
use Rattle.std.proofs.lemmas.List.{at_drop_more}
use Rattle.numeral.specs.Numeral.{is_digit, value}
use Rattle.numeral.proofs.NumeralLemmas.{taken}
use Rattle.numeral.proofs.digits.short_value_of.Goals as goal

pub loop-b-preserved : goal.loop-b-preserved
loop-b-preserved c =
    let digit : is_digit (get_or c.args.bytes.now c.loop-b.b-index 0) ≡ true = grind (arith, nat_tests, c.digit_of-digit.ensures.digit, c.if-digit-gt9) in
    let same = c.digit_of-digit.ensures.value digit in
    let next : drop c.loop-b.b-index c.args.bytes.now ≡ get_or c.args.bytes.now c.loop-b.b-index 0 ∷ drop (c.loop-b.b-index + 1) c.args.bytes.now = at_drop_more (λ (ds : List ℕ). ds) c.args.bytes.now c.loop-b.b-index 0 c.loop-b-test.true in
    let t = taken c.loop-b.value (get_or c.args.bytes.now c.loop-b.b-index 0) (drop (c.loop-b.b-index + 1) c.args.bytes.now) c.loop-b.b-index (value c.args.bytes.now) (list_all is_digit c.args.bytes.now) c.loop-b.invariant.below
    digit
    (subst (λ (ds : List ℕ). list_all is_digit ds ≡ list_all is_digit c.args.bytes.now) next c.loop-b.invariant.digits)
    (subst (λ (ds : List ℕ). c.loop-b.value * 10 ^ length ds + value ds ≡ value c.args.bytes.now) next c.loop-b.invariant.value) in
    record { below = rw (same) t.below; digits = t.digits; value = rw (same) t.value }
