-- The definitions that must be unfolded to compute `work_in` on a literal.
use Rattle.std.specs.Prelude.{⊤}
use Rattle.csv.specs.Records.{field_at}
use Rattle.csv.proofs.OnLiterals.{csv_on_literals}
use Rattle.numeral.specs.Numeral.{numeral, number}
use Rattle.work_file.specs.Rows.{time_fault}
use Rattle.work_file.specs.WorkFile.{record_row}

unfoldable pub work_file_on_literals : ⊤
unfolding csv_on_literals field_at numeral number time_fault record_row
work_file_on_literals = tt
