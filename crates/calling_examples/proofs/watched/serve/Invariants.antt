use Rattle.task_threads.specs.Passes.{IsPassFor}
use Rattle.calling_examples.proofs.watched.serve.Given as goal

abbrev pub invariant-loop : goal.invariant-loop
invariant-loop g l = IsPassFor l.executive 1 l.first × IsPassFor l.executive 2 l.second
