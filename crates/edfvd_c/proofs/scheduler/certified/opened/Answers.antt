use Rattle.std.proofs.lemmas.Result.{err_from_is_err_and}
use Rattle.edfvd_c.proofs.scheduler.certified.opened.Goals as goal

pub returns-in_err-set-clause-unopened : goal.returns-in_err-set-clause-unopened
returns-in_err-set-clause-unopened c =
    let (why, is_err, same) = err_from_is_err_and c.from_residual.result c.from_residual.ensures.1 in
    rw (is_err, same) c.in_err-set.ensures.unopened
