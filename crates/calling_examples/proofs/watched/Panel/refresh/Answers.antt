use Rattle.std.proofs.Common.{ap, arith}
use Rattle.status_board.specs.declared.shown.Shown.{Shown}
use Rattle.calling_examples.proofs.Logs.{never_back}
use Rattle.calling_examples.proofs.watched.Panel.refresh.Goals as goal

pub overflow_sub-ended : goal.overflow_sub-ended
overflow_sub-ended c =
    let now = ap (λ (s : Shown). s.ticks) c.watch-now.ensures.last in
    let was = ap (λ (s : Shown). s.ticks) c.requires.last in
    omega (arith, now, was, never_back _ _ c.watch-now.ensures.begins c.watch-now.ensures.log)

pub returns-clause-ended : goal.returns-clause-ended
returns-clause-ended c =
    let now = ap (λ (s : Shown). s.ticks) c.watch-now.ensures.last in
    let was = ap (λ (s : Shown). s.ticks) c.requires.last in
    omega (arith, now, was, never_back _ _ c.watch-now.ensures.begins c.watch-now.ensures.log)
