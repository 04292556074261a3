use Rattle.std.proofs.Common.{[], length}
use Rattle.csv_records.specs.Rows.{accepted_from, rows_from}
use Rattle.csv_records.proofs.Taking.{IsReading}
use Rattle.csv_records.proofs.rows.take_after_header.Given as goal

-- the records that are left, after the rows that were taken so far, say and accept what all records do
abbrev pub invariant-records : goal.invariant-records
invariant-records g l =
    IsReading (g.T.TakesRows.took l.taker l.state l.rows) (g.T.TakesRows.means l.taker l.state) l.records l.line
    (rows_from (g.T.TakesRows.means l.fn.taker l.fn.state) l.fn.records [])
    (accepted_from (g.T.TakesRows.means l.fn.taker l.fn.state) l.fn.records [])

abbrev pub decreases-records : goal.decreases-records
decreases-records g l = length l.records
