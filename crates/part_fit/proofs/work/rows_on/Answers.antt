use Rattle.std.proofs.Common.{refl}
use Rattle.std.proofs.lemmas.List.{take_all, append-nil}
use Rattle.part_fit.specs.PartWork.{part_rows}
use Rattle.part_fit.proofs.Numbers.{number_in-numbers}
use Rattle.part_fit.proofs.WorkRows.{part_rows-more}
use Rattle.part_fit.proofs.work.rows_on.Goals as goal
use Rattle.part_fit.proofs.work.rows_on.Goals.{in-Some+in_ok-push, in_default}

pub loop-row-init : goal.loop-row-init
unfolding part_rows
loop-row-init c = c.new-own.ensures.items

pub loop-row-preserved : goal.loop-row-preserved
loop-row-preserved c =
    let number = rw (c.deref.ensures.value, c.in_ok-numbers.ensures, number_in-numbers) at c.number_in.ensures in
    let more = part_rows-more c.args.processor c.args.of.now c.args.rows.now c.loop-row.row-index _ c.loop-row-test.true number in
    elim c.match-number_in.branch [
      | in-Some+in_ok-push w ↦ rw (w.own-is, w.in_ok-push.ensures.items, more, w.in-Some.is, c.loop-row.invariant) refl
      | in_default w ↦ rw (w.own-is, more, w.in_default.is, append-nil) c.loop-row.invariant
    ]

pub returns : goal.returns
returns c = rw (take_all c.loop-row.row-index c.args.rows.now c.loop-row-test.false) at c.loop-row.invariant
