use Rattle.task_file.proofs.RoundTrip.{reads_back}
use Rattle.task_file.proofs.print.print_tasks.Goals as goal

pub returns-in-Ok : goal.returns-in-Ok
returns-in-Ok c =
    rw c.into_bytes.ensures.value
    (reads_back c.in-Ok.text _ c.args.set.now c.in_ok-table.ensures.tree c.in_ok-table.ensures.set c.in-Ok.ensures.reads_back)
