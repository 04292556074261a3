use Rattle.std.proofs.Common.{◌+◌, arith, get_or}
use Rattle.std.proofs.lemmas.List.FromFn.{fill_by_all}
use Rattle.study.proofs.counting.add.Goals as goal

pub returns : goal.returns
returns c =
    let inv = c.loop-k.invariant in
    fill_by_all (λ k. get_or c.args.counts.now k 0 + get_or c.args.more k 0) c.loop-k.counts 11 0 inv.long (λ k lt. inv.done k (omega (arith, lt, c.loop-k-test.false)))
