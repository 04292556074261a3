use Rattle.tick_frac.specs.Fraction.{lowest}
use Rattle.tick_frac.proofs.Numbers.{gcd_pos_second}
use Rattle.tick_frac.proofs.Fractions.{lowest-equal, IsLowest-lowest}
use Rattle.tick_frac.proofs.ratio.Ratio.new.Goals as goal

pub nonzero_div-result : goal.nonzero_div-result
nonzero_div-result c = rw c.gcd-divisor.ensures.value (gcd_pos_second _ _ c.requires)

pub nonzero_div-result-2 : goal.nonzero_div-result-2
nonzero_div-result-2 c = rw c.gcd-divisor.ensures.value (gcd_pos_second _ _ c.requires)

pub invariant_of-result : goal.invariant_of-result
unfolding lowest
invariant_of-result c = rw c.gcd-divisor.ensures.value (IsLowest-lowest c.args.num c.args.den c.requires)

pub returns-clause-value : goal.returns-clause-value
unfolding lowest
returns-clause-value c = rw c.gcd-divisor.ensures.value

pub returns-clause-equal : goal.returns-clause-equal
unfolding lowest
returns-clause-equal c = rw c.gcd-divisor.ensures.value (lowest-equal c.args.num c.args.den)

pub returns-clause-lowest : goal.returns-clause-lowest
unfolding lowest
returns-clause-lowest c = rw c.gcd-divisor.ensures.value (IsLowest-lowest c.args.num c.args.den c.requires)
