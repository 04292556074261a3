use Rattle.std.proofs.Common.{arith}
use Rattle.std.proofs.lemmas.Bool.Decides.{nat_tests}
use Rattle.admission.proofs.test.is_plain.Goals as goal

pub returns-then-a-n : goal.returns-then-a-n
returns-then-a-n c = grind (arith, nat_tests)
