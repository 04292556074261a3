use Rattle.std.proofs.Common.{rules}
use Rattle.work_file.proofs.RowLemmas.{last_some}
use Rattle.work_file.proofs.next.last_release.Goals as goal

pub returns-in-Some : goal.returns-in-Some
returns-in-Some c = last_some c.args.rows.now c.in-Some.row.now (search rules)
