use Rattle.std.proofs.Common.{◌<◌}
use Rattle.csv_records.specs.Width.{CountsFields}
use Rattle.csv_records.proofs.width.first_wide.Given as goal

abbrev pub invariant-loop-b : goal.invariant-loop-b
invariant-loop-b l = record {
  narrow : l.count.fields < 6;
  counts : CountsFields l.text l.b-index l.count;
}
