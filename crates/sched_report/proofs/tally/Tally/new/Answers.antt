use Rattle.std.proofs.Common.{◌++◌, [], ◌∷◌, length, refl, ap, ◌∙◌}
use Rattle.std.proofs.lemmas.Option.{slice_get_read}
use Rattle.sched_report.proofs.Numbered.{numbered_next}
use Rattle.sched_report.proofs.tally.Tally.new.Goals as goal

pub loop-task-preserved : goal.loop-task-preserved
loop-task-preserved c =
    let tasks = c.as_slice-tasks.result.now in
    let i = c.loop-task.task-index in
    numbered_next tasks i c.task-item.result c.loop-task.tallies.items c.push.new.self.items _
    (slice_get_read tasks (length tasks) i c.task-item.result refl c.loop-task-test.true c.task-item.is)
    (c.in_ok-push.ensures.items ∙ ap (λ x. c.loop-task.tallies.items ++ x ∷ []) c.new.ensures) c.loop-task.invariant
