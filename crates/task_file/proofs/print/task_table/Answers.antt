use Rattle.task_file.proofs.PrintLemmas.{put_high}
use Rattle.task_file.proofs.print.task_table.Goals as goal

pub returns-in_ok-put-in-High : goal.returns-in_ok-put-in-High
returns-in_ok-put-in-High c = rw (c.in_ok-put-in-High.ensures, c.in_ok-table.ensures, c.from.ensures, c.in-High.is) (put_high _ _ _)
