use Rattle.set_gen.proofs.Admitted.{generated_sets-admitted}
use Rattle.set_gen.proofs.Gaps.{generated_gaps-AreGaps}
use Rattle.set_gen.proofs.Taken.{generated_work-taken, generated_work-rows}
use Rattle.std.proofs.Common.{◌≡◌, ap, ◌∙◌}
use Rattle.mc_task.specs.TaskSet.{Set}
use Rattle.set_gen.specs.GeneratedWork.{generated_work}
use Rattle.set_gen.proofs.GeneratedTasks.{generated_set-AreTasks}
use Rattle.set_gen.proofs.made.make_all.Goals as goal

pub of_valid-set-requires : goal.of_valid-set-requires
of_valid-set-requires c = rw (c.in_ok-tasks.ensures.tasks) (generated_set-AreTasks _ c.args.count c.requires.some c.requires.few)

pub rule_of-rule-requires : goal.rule_of-rule-requires
rule_of-rule-requires c = rw (c.of_valid-set.ensures, c.in_ok-tasks.ensures.tasks) (generated_sets-admitted _ c.args.count c.requires.some c.requires.few)

pub jobs_of-requires-clause-gaps : goal.jobs_of-requires-clause-gaps
jobs_of-requires-clause-gaps c = rw (c.of_valid-set.ensures, c.in_ok-tasks.ensures.tasks, c.deref.ensures.value, c.in_ok-tasks.ensures.gaps) (generated_gaps-AreGaps _ c.args.count)

pub work_of-work-requires : goal.work_of-work-requires
work_of-work-requires c =
    let set = ap (λ (s : Set). s.tasks) c.of_valid-set.ensures ∙ c.in_ok-tasks.ensures.tasks in
    let rows : c.in_ok-rows.rows.items ≡ generated_work c.words_of-words.result c.args.count c.args.ticks =
    generated_work-rows _ _ c.args.count c.args.ticks _ _ _ set (c.deref.ensures.value ∙ c.in_ok-tasks.ensures.gaps) c.in_ok-tasks.ensures.words c.in_ok-rows.ensures in
    rw (set, rows) (generated_work-taken c.words_of-words.result c.args.count c.args.ticks c.requires.some c.requires.few c.requires.last)

pub returns-clause-work : goal.returns-clause-work
returns-clause-work c =
    let set = ap (λ (s : Set). s.tasks) c.of_valid-set.ensures ∙ c.in_ok-tasks.ensures.tasks in
    let rows : c.in_ok-rows.rows.items ≡ generated_work c.words_of-words.result c.args.count c.args.ticks =
    generated_work-rows _ _ c.args.count c.args.ticks _ _ _ set (c.deref.ensures.value ∙ c.in_ok-tasks.ensures.gaps) c.in_ok-tasks.ensures.words c.in_ok-rows.ensures in
    rw (← c.words_of-words.ensures) (c.work_of-work.ensures ∙ rows)
