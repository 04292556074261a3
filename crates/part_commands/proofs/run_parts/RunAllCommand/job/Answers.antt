use Rattle.std.proofs.Common.{rules}
use Rattle.std.proofs.lemmas.Result.{err_from_is_err_and}
use Rattle.command.proofs.Serving.{serves_read, serves_fetch, serves_unfetched, serves_answer, serves_refused}
use Rattle.command.specs.Admitted.{work_of}
use Rattle.command.specs.Given.{IsWorkOf}
use Rattle.part_commands.specs.Parted.{parted}
use Rattle.part_commands.specs.Planned.{IsParted}
use Rattle.part_commands.specs.RunAll.{IsTracesReply}
use Rattle.part_commands.proofs.run_parts.RunAllCommand.job.Goals as goal

pub returns-in_err-more : goal.returns-in_err-more
returns-in_err-more g c =
    let m = c.args.self.now.processors in
    let (stop, is_err, same) = err_from_is_err_and c.from_residual-in_err-more.result c.from_residual-in_err-more.ensures.1 in
    rw (is_err, same)
    (serves_read 1 _ _ (parted m) _ (IsParted m) c.in_ok-parted.parted c.in_ok-bytes.bytes.items _ _ _ _ c.in_ok-bytes.ensures.bytes c.in_ok-bytes.ensures.memory_faults (rw c.deref.ensures.value at c.in_ok-parted.ensures)
    (λ read is. serves_unfetched 2 _ _ _ _ _ c.in_err-more.field-0.0 c.in_err-more.ensures.refused c.in_err-more.ensures.memory_faults_refused c.in_err-more.ensures.asked))

pub returns-in_err-work : goal.returns-in_err-work
returns-in_err-work g c =
    let m = c.args.self.now.processors in
    let more = c.in_ok-more.more.items in
    let (stop, is_err, same) = err_from_is_err_and c.from_residual-in_err-work.result c.from_residual-in_err-work.ensures.1 in
    rw (is_err, same)
    (serves_read 1 _ _ (parted m) _ (IsParted m) c.in_ok-parted.parted c.in_ok-bytes.bytes.items _ _ _ _ c.in_ok-bytes.ensures.bytes c.in_ok-bytes.ensures.memory_faults (rw c.deref.ensures.value at c.in_ok-parted.ensures) (λ read is.
    serves_fetch 2 _ _ _ more _ _ _ _ c.in_ok-more.ensures.bytes c.in_ok-more.ensures.memory_faults
    (serves_refused 3 (IsWorkOf read.set) (work_of read.set more) _ _ c.in_err-work.field-0.0
    (rw (c.deref-2.ensures.value, is.set) at c.in_err-work.ensures.work) c.in_err-work.ensures.own)))

pub returns : goal.returns
returns g c =
    let m = c.args.self.now.processors in (
      search rules,
      λ reply says own.
          serves_read 1 _ _ (parted m) _ (IsParted m) c.in_ok-parted.parted c.in_ok-bytes.bytes.items _ _ _ reply c.in_ok-bytes.ensures.bytes c.in_ok-bytes.ensures.memory_faults (rw c.deref.ensures.value at c.in_ok-parted.ensures) (λ read is.
          serves_read 2 _ _ (work_of read.set) _ (IsWorkOf read.set) c.in_ok-work.work c.in_ok-more.more.items _ _ _ reply c.in_ok-more.ensures.bytes c.in_ok-more.ensures.memory_faults
          (rw (c.deref-2.ensures.value, is.set) at c.in_ok-work.ensures.work) (λ rows is_work.
          serves_answer 3 (IsTracesReply c.args.self.now.ticks m read rows) _ reply (rw (is.set, is.of, is_work.same) at says) own)),
    )
