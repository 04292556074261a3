use Rattle.promises.proofs.Promises.{answer_keeps}
use Rattle.promises.proofs.law.promises_law.Goals as goal

pub returns : goal.returns
returns c form files old reply range answer = answer_keeps form range files old reply answer
