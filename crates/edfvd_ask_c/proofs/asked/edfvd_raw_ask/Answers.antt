use Rattle.std.proofs.Common.{arith}
use Rattle.std.proofs.lemmas.Grind.{common_steps}
use Rattle.edfvd_ask_c.proofs.asked.edfvd_raw_ask.Goals as goal

pub returns : goal.returns
returns c = grind (arith, common_steps)
