use Rattle.std.proofs.Common.{arith}
use Rattle.std.proofs.lemmas.List.FromFn.{fill_by_all}
use Rattle.study.specs.Levels.{more_than}
use Rattle.study.proofs.counting.counts.Goals as goal

pub returns : goal.returns
returns c =
    let inv = c.loop-step.invariant in
    fill_by_all (λ i. more_than i c.args.reached.now) c.loop-step.counts 11 0 inv.long (λ k lt. inv.each k (omega (arith, lt, c.loop-step-test.false)))
