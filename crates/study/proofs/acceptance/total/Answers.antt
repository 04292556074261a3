use Rattle.std.proofs.Common.{◌∙◌, ◌+◌, ◌*◌, ap, arith, min}
use Rattle.study.specs.Acceptance.{accept_table}
use Rattle.study.specs.Shares.{sets_at}
use Rattle.study.proofs.Tables.{table-none, counts-most, pieces-more}
use Rattle.study.proofs.acceptance.total.Goals as goal

pub loop-index-init : goal.loop-index-init
loop-index-init c = table-none c.args.number c.args.tasks ∙ ap (λ k. accept_table c.args.number k c.args.tasks) (omega arith)

pub add-requires : goal.add-requires
add-requires c = λ k lt.
    let before = counts-most c.loop-index.counts c.args.number (min c.args.sets (128 * c.loop-index.index)) c.args.tasks k c.loop-index.invariant in
    let here = counts-most c.piece_counts.result (c.args.number + 128 * c.loop-index.index) (sets_at c.args.sets c.loop-index.index) c.args.tasks k c.piece_counts.ensures in
    omega (arith, before, here, c.requires.few_sets)

pub loop-index-preserved : goal.loop-index-preserved
loop-index-preserved c =
    let lt = c.loop-index-test.true in
    pieces-more c.args.number c.args.sets c.args.tasks c.loop-index.index c.loop-index.counts c.piece_counts.result c.add.new.counts (omega (arith, lt, c.pieces_of-index-end.ensures))
    c.loop-index.invariant c.piece_counts.ensures c.add.ensures
