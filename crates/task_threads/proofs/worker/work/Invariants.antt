use Rattle.task_threads.proofs.worker.work.Given as goal

abbrev pub invariant-loop : goal.invariant-loop
invariant-loop g l = g.T.Worker.is_of l.serving.executive.now l.task.0 l.worker
