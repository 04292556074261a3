use Rattle.std.proofs.Common.{◌+◌, arith, refl}
use Rattle.std.proofs.lemmas.List.{drop_more}
use Rattle.csv_records.proofs.WidthLemmas.{none_counted, has_too_many}
use Rattle.csv_records.proofs.width.first_wide.Goals as goal

pub loop-b-init : goal.loop-b-init
loop-b-init c = record { narrow = omega arith; counts = none_counted c.args.text.now _ refl refl refl }

pub returns-then-count-ge-MOST_FIELDS : goal.returns-then-count-ge-MOST_FIELDS
returns-then-count-ge-MOST_FIELDS c =
    let counts = c.counted-count.ensures c.args.text.now c.loop-b.b-index (drop_more c.args.text.now c.loop-b.b-index 0 c.loop-b-test.true) c.loop-b.invariant.counts in
    has_too_many c.args.text.now (c.loop-b.b-index + 1) c.counted-count.result counts c.if-count-ge-MOST_FIELDS.true
