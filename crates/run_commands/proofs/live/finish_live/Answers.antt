use Rattle.std.proofs.Common.{◌≡◌, ℕ, ◌≤◌, List, reverse, ap, sym, ◌∙◌, subst, arith, rules}
use Rattle.std.proofs.lemmas.List.{reverse-reverse, length-reverse}
use Rattle.mc_task.specs.declared.task.Task.{Task}
use Rattle.mc_task.specs.declared.task.Rule.{Rule}
use Rattle.mc_model.specs.declared.row.Row.{Row}
use Rattle.mc_model.specs.Core.{State}
use Rattle.mc_model.specs.Rows.{ticks}
use Rattle.mc_model.specs.LiveTrace.{LiveTrace}
use Rattle.mc_model.specs.TraceText.{trace_text}
use Rattle.mc_model.proofs.Traces.{rows_of_trace}
use Rattle.replies.specs.Reply.{reply_of}
use Rattle.run_commands.proofs.LiveCapacity.{few_rows}
use Rattle.run_commands.proofs.TraceBytes.{trace_text_le}
use Rattle.run_commands.proofs.live.finish_live.Goals as goal

-- a live trace of a core's set and rule is one of the set and the rule that an equal state has
live_of : (s t : State) (set : List Task) (rule : Rule) (n : ℕ) (h : List Row) → s ≡ t → t.set ≡ set → t.rule ≡ rule → LiveTrace s.set s.rule n h → LiveTrace set rule n h
live_of s t set rule n h same of_set of_rule live =
    subst (λ r. LiveTrace set r n h) of_rule (subst (λ x. LiveTrace x t.rule n h) of_set (subst (λ (u : State). LiveTrace u.set u.rule n h) same live))

pub write_rows-requires : goal.write_rows-requires
write_rows-requires g c =
    let set : c.in_ok-floor.floor.core.set ≡ c.args.job.set.tasks = search rules in
    let rule : c.in_ok-floor.floor.core.rule ≡ c.args.job.rule = search rules in
    let rows = c.live_rows.result.now in
    let live = live_of c.core-done.result.now c.in_ok-floor.floor.core c.args.job.set.tasks c.args.job.rule c.get-ticks.result (reverse rows) c.core-done.ensures.value set rule c.live_rows.ensures in
    let few = few_rows c.args.job.set.tasks c.args.job.rule (reverse rows) c.len-is_set.ensures.set c.requires.holds live.legal in
    record {
      tasks = rw (c.set.ensures ∙ (ap (λ (s : State). s.set) c.core-done.ensures.value ∙ set))
          (rows_of_trace c.args.job.set.tasks rows (record { rule = c.args.job.rule; fits = c.requires.fits; legal = live.legal }));
      few = omega (arith, few, length-reverse rows, live.ticks, c.get-ticks.ensures.most);
    }

pub returns-clause-live_reply : goal.returns-clause-live_reply
returns-clause-live_reply g c =
    let set : c.in_ok-floor.floor.core.set ≡ c.args.job.set.tasks = search rules in
    let rule : c.in_ok-floor.floor.core.rule ≡ c.args.job.rule = search rules in
    let rows = c.live_rows.result.now in
    let live = live_of c.core-done.result.now c.in_ok-floor.floor.core c.args.job.set.tasks c.args.job.rule c.get-ticks.result (reverse rows) c.core-done.ensures.value set rule c.live_rows.ensures in
    let text : c.new-2.result ≡ reply_of 0 c.in_ok-text.text.items = search rules in
    let of_set = c.set.ensures ∙ (ap (λ (s : State). s.set) c.core-done.ensures.value ∙ set) in
    let is : c.in_ok-text.text.items ≡ trace_text c.args.job.set.tasks rows = rw of_set at c.in_ok-text.ensures.text in
    (reverse rows, rw (c.get-ticks.ensures.value) at live, text ∙ ap (reply_of 0) (is ∙ ap (trace_text c.args.job.set.tasks) (sym (reverse-reverse rows))))

pub returns-clause-short : goal.returns-clause-short
unfolding returns-clause-live_reply
returns-clause-short g c =
    let (h, live, same) = returns-clause-live_reply g c in
    let few = few_rows c.args.job.set.tasks c.args.job.rule h c.len-is_set.ensures.set c.requires.holds live.legal in
    let short : ticks h ≤ 100000 = omega (arith, live.ticks, c.get-ticks.ensures.value, c.get-ticks.ensures.most) in
    let text = trace_text_le c.args.job.set.tasks c.args.job.rule h c.new-2.result c.len-is_set.ensures.set live.legal (omega (arith, few, short)) same in
    omega (arith, few, short, text)
