use Rattle.tick_frac.proofs.Multiples.{IsLcm-lcm}
use Rattle.tick_frac.proofs.divisor.lcm_within.Goals as goal

pub returns-then-multiple-from-clause-law : goal.returns-then-multiple-from-clause-law
returns-then-multiple-from-clause-law c = IsLcm-lcm

pub returns-else-multiple-from-clause-law : goal.returns-else-multiple-from-clause-law
returns-else-multiple-from-clause-law c = IsLcm-lcm
