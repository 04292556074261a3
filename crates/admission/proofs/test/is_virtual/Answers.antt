use Rattle.std.proofs.Common.{arith}
use Rattle.std.proofs.lemmas.Bool.Decides.{nat_tests}
use Rattle.admission.proofs.test.is_virtual.Goals as goal

pub returns : goal.returns
returns c = grind (arith, nat_tests)
