use Rattle.std.proofs.Common.{Err}
use Rattle.std.proofs.lemmas.Result.{err_from_is_err_and}
use Rattle.replies.specs.declared.stop.Stop.TheVariants.{Memory}
use Rattle.run_commands.proofs.run.RunCommand.reply_alone.Goals as goal

pub returns-in_err-job-clause-serves : goal.returns-in_err-job-clause-serves
returns-in_err-job-clause-serves g c =
    let (stop, is_err, same) = err_from_is_err_and c.from_residual.result c.from_residual.ensures.1 in
    rw (is_err, same) c.in_err-job.ensures

pub returns-in_err-floor-clause-serves : goal.returns-in_err-floor-clause-serves
returns-in_err-floor-clause-serves g c =
    let (stop, is_err, memory) = err_from_is_err_and c.from_residual-in_err-floor.result c.from_residual-in_err-floor.ensures.1 in
    rw (is_err, memory) (c.in_ok-job.ensures.1 (Err Memory) tt tt)

pub returns-clause-serves : goal.returns-clause-serves
returns-clause-serves g c =
    c.in_ok-job.ensures.1 c.trace_reply.result (c.trace_reply.ensures.trace c.in_ok-job.job c.args.self.now.ticks c.in_ok-floor.ensures) c.trace_reply.ensures.own
