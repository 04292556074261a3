use Rattle.std.proofs.Common.{◌≡◌, ◌∙◌, ap, refl}
use Rattle.std.proofs.lemmas.Result.{err_from_is_err_and}
use Rattle.replies.specs.Reading.{reply_by}
use Rattle.command.proofs.Serving.{serves_read, serves_fetch, serves_unfetched, serves_answer, Replies-weaker}
use Rattle.command.specs.Admitted.{with_rule}
use Rattle.command.specs.Given.{IsSetWithRule}
use Rattle.trace_commands.specs.OnTrace.{set_with_rule_for, output_for}
use Rattle.trace_commands.proofs.on_trace.TraceCommand.reply.Goals as goal

pub returns-in_err-more : goal.returns-in_err-more
returns-in_err-more g c =
    let (stop, is_err, same) = err_from_is_err_and c.from_residual-in_err-more.result c.from_residual-in_err-more.ensures.1 in
    rw (is_err, same)
    (serves_read 1 _ _ (set_with_rule_for c.args.self.now.action) _ IsSetWithRule c.in_ok-ruled.ruled c.in_ok-bytes.bytes.items _ _ _ _ c.in_ok-bytes.ensures.bytes c.in_ok-bytes.ensures.memory_faults
    (rw c.deref.ensures.value at c.in_ok-ruled.ensures)
    (λ read is. serves_unfetched 2 _ _ _ _ _ c.in_err-more.field-0.0 c.in_err-more.ensures.refused c.in_err-more.ensures.memory_faults_refused c.in_err-more.ensures.asked))

pub returns : goal.returns
returns g c =
    let action = c.args.self.now.action in
    let given = c.in_ok-ruled.ruled in
    let more = c.in_ok-more.more.items in
    serves_read 1 _ _ (set_with_rule_for action) _ IsSetWithRule given c.in_ok-bytes.bytes.items _ _ _ _ c.in_ok-bytes.ensures.bytes c.in_ok-bytes.ensures.memory_faults (rw c.deref.ensures.value at c.in_ok-ruled.ensures) (λ read is.
    let same : given ≡ read = ap (with_rule given.rule) is.set ∙ ap (λ rule. with_rule rule read.set) is.rule in
    serves_fetch 2 _ _ _ more _ _ _ _ c.in_ok-more.ensures.bytes c.in_ok-more.ensures.memory_faults
    (serves_answer 3 (λ reply. reply ≡ reply_by (output_for action read more)) _ _
    (Replies-weaker (λ reply. reply ≡ reply_by (output_for action read more)) c.reply_to_trace.result (λ reply is. is ∙ rw (c.deref-2.ensures.value, same) refl) c.reply_to_trace.ensures.reply) c.reply_to_trace.ensures.own))
