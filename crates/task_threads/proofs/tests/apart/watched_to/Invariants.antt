use Rattle.executive.specs.Watching.{IsWatcherOf}
use Rattle.task_threads.proofs.tests.apart.watched_to.Given as goal

abbrev pub invariant-loop : goal.invariant-loop
invariant-loop g l = IsWatcherOf l.executive l.watcher
