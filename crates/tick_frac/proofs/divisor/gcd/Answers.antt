use Rattle.std.proofs.Common.{arith}
use Rattle.std.proofs.lemmas.Nat.Gcd.{IsGcd-from_zero, IsGcd-from_mod}
use Rattle.tick_frac.proofs.Numbers.{gcd-IsGcd, gcd_from_IsGcd}
use Rattle.tick_frac.proofs.divisor.gcd.Goals as goal

pub steps-preserved : goal.steps-preserved
steps-preserved c g h = c.steps.invariant g (IsGcd-from_mod _ _ g h)

pub returns-clause-value : goal.returns-clause-value
returns-clause-value c = gcd_from_IsGcd _ _ _ (c.steps.invariant _ (IsGcd-from_zero _ _ (omega arith)))

pub returns-clause-law : goal.returns-clause-law
returns-clause-law c = gcd-IsGcd
