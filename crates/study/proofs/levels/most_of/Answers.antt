use Rattle.std.proofs.Common.{arith}
use Rattle.study.proofs.MostHigh.{over-AdmitsUpTo, full-AdmitsUpTo, part-AdmitsUpTo}
use Rattle.study.proofs.levels.most_of.Goals as goal

pub returns-then-a-gt-SPAN : goal.returns-then-a-gt-SPAN
returns-then-a-gt-SPAN c = over-AdmitsUpTo 20000 c.args.a c.args.b (omega arith)

pub returns-then-rest-eq0 : goal.returns-then-rest-eq0
returns-then-rest-eq0 c = full-AdmitsUpTo 20000 c.args.a c.args.b (omega arith)

pub returns : goal.returns
returns c = part-AdmitsUpTo 20000 c.args.a c.args.b (omega arith) (omega arith)
