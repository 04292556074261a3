use Rattle.task_file.proofs.PrintLemmas.{put_tasks}
use Rattle.task_file.proofs.print.tasks_and_version.Goals as goal

pub returns : goal.returns
returns c =
    rw (c.in_ok-put-2.ensures, c.in_ok-put.ensures, c.new-table.ensures.empty, c.from.ensures, c.from-2.ensures, c.in_ok-items.ensures) (put_tasks _ _)
