use Rattle.std.proofs.Common.{◌≡◌, ◌+◌, ◌≤◌, vec_len, vec_capacity}
use Rattle.task_threads.specs.Workers.{AreInOrder}
use Rattle.task_threads.specs.Starts.{GoDown}
use Rattle.task_threads.proofs.starts.start_all.Given as goal

abbrev pub invariant-loop-worker : goal.invariant-loop-worker
invariant-loop-worker g l = record {
  workers : AreInOrder g.T.Worker.is_of l.serving.executive.now l.workers.items;
  len : vec_len l.workers + vec_len l.starts ≡ vec_len l.fn.workers;
  room : vec_len l.fn.workers ≤ vec_capacity l.starts;
  few : vec_len l.fn.workers ≤ 128;
  kept : vec_capacity l.workers ≡ vec_capacity l.fn.workers;
  starts : GoDown g.T.Worker.is_of l.serving.executive.now (vec_len l.fn.workers) l.starts.items;
}

abbrev pub decreases-loop-worker : goal.decreases-loop-worker
decreases-loop-worker g l = vec_len l.workers
