use Rattle.std.proofs.Common.{◌∙◌, sym, arith}
use Rattle.mc_model.specs.declared.run.Run.TheVariants as run
use Rattle.trace_judge.proofs.Ticks.{at_first, at_first_tracks}
use Rattle.trace_judge.proofs.Faults.{release_fault}
use Rattle.trace_judge.proofs.Keeps.{keeps_release}
use Rattle.trace_judge.proofs.step.release.Goals as goal

pub returns-in-Some-clause-step : goal.returns-in-Some-clause-step
returns-in-Some-clause-step c g l t =
    let at = c.task_in-task.ensures in (
      at_first c.args.set.now.tasks c.args.rule _ g _ _ c.first.ensures (omega arith) l (sym c.in-Some.is ∙ (c.release_why.ensures ∙ release_fault c.args.set.now.tasks c.args.rule g c.args.state.now c.args.job c.args.kept c.task_in-task.result.now t c.requires.task.0 c.requires.task.1 at)),
      at_first_tracks c.args.set.now.tasks c.args.rule (run.Release c.args.job c.args.kept) g c.args.state.now _ _ c.first.ensures t,
    )

pub returns-clause-step : goal.returns-clause-step
returns-clause-step c g l t =
    let at = c.task_in-task.ensures in
    let n = sym c.in_default.is ∙ (c.release_why.ensures ∙ release_fault c.args.set.now.tasks c.args.rule g c.args.state.now c.args.job c.args.kept c.task_in-task.result.now t c.requires.task.0 c.requires.task.1 at) in
    ((c.requires.task, sym n, l), keeps_release c.args.set.now.tasks c.args.rule g c.args.state.now _ c.args.job c.args.kept c.task_in-task.result.now (c.requires.task, sym n, l) t at c.in_ok-release.ensures.follows)
