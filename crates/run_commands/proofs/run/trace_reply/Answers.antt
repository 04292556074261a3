use Rattle.std.proofs.Common.{rules, ◌≡◌, ◌∙◌, reverse, ap, arith}
use Rattle.mc_model.specs.Core.{State}
use Rattle.replies.specs.Reply.{reply_of}
use Rattle.run_commands.proofs.TraceBytes.{trace_text_le}
use Rattle.run_commands.proofs.run.trace_reply.Goals as goal

pub write_rows-requires-clause-tasks : goal.write_rows-requires-clause-tasks
write_rows-requires-clause-tasks c = rw c.set-set.ensures c.rows.ensures.of_set

pub returns-clause-trace : goal.returns-clause-trace
returns-clause-trace c = λ job ticks planned.
    let of_set : c.set-set.result.now.tasks ≡ job.set.tasks = c.set-set.ensures ∙ (ap (λ (s : State). s.set) c.core-core.ensures.value ∙ planned.same_set) in
    let rows : c.rows.result.now ≡ reverse c.args.floor.now.core.rows = c.rows.ensures.value ∙ ap (λ (s : State). reverse s.rows) c.core-core.ensures.value in
    let text : c.new.result ≡ reply_of 0 c.in_ok-text.text.items = search rules in
    (c.args.floor.now.core.rows, planned.follows, text ∙ ap (reply_of 0) (rw (of_set, rows) at c.in_ok-text.ensures.text))

pub returns-clause-short : goal.returns-clause-short
unfolding returns-clause-trace
returns-clause-short c = λ job ticks planned.
    let found = returns-clause-trace c job ticks planned in
    let of_set : c.set-set.result.now.tasks ≡ job.set.tasks = c.set-set.ensures ∙ (ap (λ (s : State). s.set) c.core-core.ensures.value ∙ planned.same_set) in
    let h = c.args.floor.now.core.rows in
    let few = planned.few in
    let most = planned.most in
    let count = found.1.ticks in
    let text = trace_text_le job.set.tasks job.rule h c.new.result (rw of_set at c.len-is_set.ensures.set) found.1.legal (omega (arith, few, most)) found.2 in
    omega (arith, few, most, count, text)
