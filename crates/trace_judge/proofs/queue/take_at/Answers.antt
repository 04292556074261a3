use Rattle.std.proofs.Common.{◌≡◌, arith}
use Rattle.trace_judge.proofs.queue.take_at.Goals as goal

pub returns-clause-items : goal.returns-clause-items
returns-clause-items c = let first : c.args.position ≡ 0 = omega (arith, c.if-position-gt0.false) in rw first c.pop_front.ensures.rest
