use Rattle.std.proofs.Common.{◌≡◌, ℕ, List, ◌++◌, Some, subst, append_assoc, rules, reverse, ap, ◌∙◌}
use Rattle.mc_task.specs.declared.task.Task.{Task}
use Rattle.mc_task.specs.declared.task.Rule.{Rule}
use Rattle.mc_model.specs.declared.row.Row.{Row}
use Rattle.mc_model.specs.declared.work.WorkRow.{WorkRow}
use Rattle.mc_model.specs.Test.{published}
use Rattle.mc_model.specs.Follows.{Follows}
use Rattle.mc_model.specs.Verdict.{verdict}
use Rattle.mc_model.specs.VerdictText.{verdict_line}
use Rattle.sched_report.specs.ReportText.{summary_text}
use Rattle.set_gen.specs.Words.{words_of}
use Rattle.set_gen.specs.GeneratedWork.{generated_work}
use Rattle.run_commands.specs.Soak.{workload_set, call_line, rule_line, soak_text, IsSoaked, IsSoakReply}
use Rattle.std.proofs.lemmas.List.{reverse-reverse}
use Rattle.mc_model.specs.Core.{State}
use Rattle.replies.specs.Reply.{reply_of}
use Rattle.command.proofs.Serving.{serves_text}
use Rattle.run_commands.proofs.soak.SoakCommand.reply.Goals as goal

is_soaked : (number tasks ticks : ℕ) (set : List Task) (rule : Rule) (work : List WorkRow) (h : List Row) → set ≡ workload_set number tasks → work ≡ generated_work (words_of number) tasks ticks → published set ≡ Some rule
    → Follows set rule work ticks h → IsSoaked number tasks ticks rule h
is_soaked number tasks ticks set rule work h s w t f = record {
  test = subst (λ x. published x ≡ Some rule) s t;
  follows = subst (λ x. Follows x rule (generated_work (words_of number) tasks ticks) ticks h) s (subst (λ x. Follows set rule x ticks h) w f);
}

-- what `soak` writes, piece by piece, with the rows as they stand in the code
soak_text-pieces : (number tasks ticks : ℕ) (set : List Task) (rule : Rule) (h rows : List Row) (front text : List ℕ) → set ≡ workload_set number tasks → rows ≡ h → front ≡ call_line number tasks ticks ++ rule_line rule
    → text ≡ front ++ (summary_text set rows ++ verdict_line set (verdict set rule rows)) → text ≡ soak_text number tasks ticks (workload_set number tasks) rule h
unfolding soak_text
soak_text-pieces number tasks ticks set rule h rows front text s r f t =
    let joined = append_assoc (call_line number tasks ticks) (rule_line rule) (summary_text set rows ++ verdict_line set (verdict set rule rows)) in cc

pub returns : goal.returns
returns g c = λ shelf.
    let self = c.args.self.now in
    let made = c.in_ok-set.field-0 in
    let h = c.in_ok-floor.floor.core.rows in
    let generated_set : made.set.tasks ≡ workload_set self.number c.get-tasks.result = search rules in
    let set : made.set.tasks ≡ workload_set self.number self.tasks = rw (c.get-tasks.ensures.value) at generated_set in
    let made_rows : made.work ≡ generated_work (words_of self.number) c.get-tasks.result c.get.result = search rules in
    let work : made.work ≡ generated_work (words_of self.number) self.tasks self.ticks = rw (c.get-tasks.ensures.value, c.get.ensures.value) at made_rows in
    let rule : published made.set.tasks ≡ Some made.rule = search rules in
    let of_set = c.set.ensures ∙ (ap (λ (s : State). s.set) c.core-core.ensures.value ∙ (c.in_ok-floor.ensures.same_set ∙ set)) in
    let rows = ap reverse c.rows.ensures.value ∙ (reverse-reverse c.core-core.result.now.rows ∙ ap (λ (s : State). s.rows) c.core-core.ensures.value) in
    let text : c.new.result ≡ reply_of 0 c.in_ok-text.text.items = search rules in
    serves_text 1 (IsSoakReply self.number self.tasks self.ticks) shelf c.new.result c.in_ok-text.text.items text (
      made.rule,
      h,
      is_soaked self.number self.tasks self.ticks made.set.tasks made.rule made.work h set work rule c.in_ok-floor.ensures.follows,
      text ∙ ap (reply_of 0) (soak_text-pieces self.number self.tasks self.ticks c.set.result.now.tasks made.rule h (reverse c.rows.result.now) c.in_ok-front.front.items c.in_ok-text.text.items of_set rows c.in_ok-front.ensures c.in_ok-text.ensures),
    )
