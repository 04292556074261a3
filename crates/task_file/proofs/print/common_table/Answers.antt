use Rattle.task_file.proofs.PrintLemmas.{put_common}
use Rattle.task_file.proofs.print.common_table.Goals as goal

pub returns : goal.returns
returns c =
    rw (c.in_ok-put-4.ensures, c.in_ok-put-3.ensures, c.in_ok-put-2.ensures, c.in_ok-put.ensures, c.new-table.ensures.empty, c.in_ok-name_value.ensures, c.in_ok-level_value.ensures, c.from.ensures, c.from-2.ensures)
    (put_common _ _ _ _)
