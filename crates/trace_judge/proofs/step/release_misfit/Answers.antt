use Rattle.std.proofs.Common.{sym, ◌∙◌, arith}
use Rattle.trace_judge.proofs.Ticks.{at_first}
use Rattle.trace_judge.proofs.Faults.{release_fault}
use Rattle.trace_judge.proofs.step.release_misfit.Goals as goal

pub returns-in-None : goal.returns-in-None
returns-in-None c rule g l t =
    let n = sym c.in-None.is ∙ (c.release_why.ensures ∙ release_fault c.args.set.now.tasks rule g c.args.state.now c.args.job c.args.kept c.task_in-task.result.now t c.requires.task.0 c.requires.task.1 c.task_in-task.ensures) in
    (c.requires.task, sym n, l)

pub returns-in-Some : goal.returns-in-Some
returns-in-Some c rule g l t =
    at_first c.args.set.now.tasks rule _ g _ _ c.first.ensures (omega arith) l (sym c.in-Some.is ∙ (c.release_why.ensures ∙ release_fault c.args.set.now.tasks rule g c.args.state.now c.args.job c.args.kept c.task_in-task.result.now t c.requires.task.0 c.requires.task.1 c.task_in-task.ensures))
