use Rattle.std.proofs.lemmas.Result.{err_from_is_err_and}
use Rattle.run_commands.proofs.live.LiveCommand.reply.Goals as goal

pub returns-in_err-job-clause-serves : goal.returns-in_err-job-clause-serves
returns-in_err-job-clause-serves g c =
    let (stop, is_err, same) = err_from_is_err_and c.from_residual.result c.from_residual.ensures.1 in
    rw (is_err, same) c.in_err-job.ensures

pub returns-clause-serves : goal.returns-clause-serves
returns-clause-serves g c = c.in_ok-job.ensures.1 c.finish_live.result c.finish_live.ensures.live_reply c.finish_live.ensures.own
