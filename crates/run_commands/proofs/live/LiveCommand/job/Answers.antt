use Rattle.std.proofs.Common.{rules}
use Rattle.command.proofs.Serving.{serves_read, serves_answer}
use Rattle.command.specs.Admitted.{admitted}
use Rattle.command.specs.Given.{IsGivenAs}
use Rattle.run_commands.specs.Live.{IsLiveReply}
use Rattle.run_commands.proofs.live.LiveCommand.job.Goals as goal

pub returns : goal.returns
returns g c = (
  search rules,
  λ reply live_reply own.
      serves_read 1 _ _ admitted _ IsGivenAs c.in_ok-set.field-0 c.in_ok-bytes.bytes.items _ _ _ reply c.in_ok-bytes.ensures.bytes c.in_ok-bytes.ensures.memory_faults (rw c.deref.ensures.value at c.in_ok-set.ensures)
      (λ read is. serves_answer 2 (IsLiveReply c.args.self.now.ticks read) _ reply (rw (is.set, is.rule) at live_reply) own),
)
