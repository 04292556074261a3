use Rattle.task_threads.specs.Passes.{IsPassFor}
use Rattle.task_threads.proofs.planned.serve.Given as goal

abbrev pub invariant-loop : goal.invariant-loop
invariant-loop g l = IsPassFor l.serving.executive.now l.task.0 l.pass
