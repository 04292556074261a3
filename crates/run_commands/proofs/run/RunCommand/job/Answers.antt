use Rattle.std.proofs.Common.{rules}
use Rattle.std.proofs.lemmas.Result.{err_from_is_err_and}
use Rattle.command.proofs.Serving.{serves_read, serves_fetch, serves_unfetched, serves_answer, serves_refused}
use Rattle.command.specs.Admitted.{admitted, work_of}
use Rattle.command.specs.Given.{IsGivenAs, IsWorkOf}
use Rattle.run_commands.specs.Run.{IsTraceReply}
use Rattle.run_commands.proofs.run.RunCommand.job.Goals as goal

pub returns-in_err-more : goal.returns-in_err-more
returns-in_err-more g c =
    let (stop, is_err, same) = err_from_is_err_and c.from_residual-in_err-more.result c.from_residual-in_err-more.ensures.1 in
    rw (is_err, same)
    (serves_read 1 _ _ admitted _ IsGivenAs c.in_ok-set.field-0 c.in_ok-bytes.bytes.items _ _ _ _ c.in_ok-bytes.ensures.bytes c.in_ok-bytes.ensures.memory_faults (rw c.deref.ensures.value at c.in_ok-set.ensures)
    (λ read is. serves_unfetched 2 _ _ _ _ _ c.in_err-more.field-0.0 c.in_err-more.ensures.refused c.in_err-more.ensures.memory_faults_refused c.in_err-more.ensures.asked))

pub returns-in_err-work : goal.returns-in_err-work
returns-in_err-work g c =
    let more = c.in_ok-more.more.items in
    let (stop, is_err, same) = err_from_is_err_and c.from_residual-in_err-work.result c.from_residual-in_err-work.ensures.1 in
    rw (is_err, same)
    (serves_read 1 _ _ admitted _ IsGivenAs c.in_ok-set.field-0 c.in_ok-bytes.bytes.items _ _ _ _ c.in_ok-bytes.ensures.bytes c.in_ok-bytes.ensures.memory_faults (rw c.deref.ensures.value at c.in_ok-set.ensures) (λ read is.
    serves_fetch 2 _ _ _ more _ _ _ _ c.in_ok-more.ensures.bytes c.in_ok-more.ensures.memory_faults
    (serves_refused 3 (IsWorkOf read.set.tasks) (work_of read.set.tasks more) _ _ c.in_err-work.field-0.0
    (rw (c.deref-2.ensures.value, is.set) at c.in_err-work.ensures.work) c.in_err-work.ensures.own)))

pub returns : goal.returns
returns g c = (
  search rules,
  λ reply says own.
      serves_read 1 _ _ admitted _ IsGivenAs c.in_ok-set.field-0 c.in_ok-bytes.bytes.items _ _ _ reply c.in_ok-bytes.ensures.bytes c.in_ok-bytes.ensures.memory_faults (rw c.deref.ensures.value at c.in_ok-set.ensures) (λ read is.
      serves_read 2 _ _ (work_of read.set.tasks) _ (IsWorkOf read.set.tasks) c.in_ok-work.work c.in_ok-more.more.items _ _ _ reply c.in_ok-more.ensures.bytes c.in_ok-more.ensures.memory_faults
      (rw (c.deref-2.ensures.value, is.set) at c.in_ok-work.ensures.work) (λ rows is_work.
      serves_answer 3 (IsTraceReply c.args.self.now.ticks read.set.tasks read.rule rows) _ reply (rw (is.set, is.rule, is_work.same) at says) own)),
)
