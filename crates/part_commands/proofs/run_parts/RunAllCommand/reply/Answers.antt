use Rattle.std.proofs.lemmas.Result.{err_from_is_err_and}
use Rattle.part_commands.proofs.run_parts.RunAllCommand.reply.Goals as goal

pub returns-in_err-job : goal.returns-in_err-job
returns-in_err-job g c =
    let (stop, is_err, same) = err_from_is_err_and c.from_residual.result c.from_residual.ensures.1 in
    rw (is_err, same) c.in_err-job.ensures

pub returns : goal.returns
returns g c = c.in_ok-job.ensures.1 c.finish_run_all.result c.finish_run_all.ensures.traces c.finish_run_all.ensures.own
