use Rattle.std.proofs.Common.{◌≡◌, ◌+◌, ◌≤◌, vec_len, vec_capacity}
use Rattle.task_threads.specs.Workers.{AreInOrder}
use Rattle.task_threads.specs.Starts.{GoDown}
use Rattle.task_threads.proofs.starts.join_all.Given as goal

abbrev pub invariant-loop-start : goal.invariant-loop-start
invariant-loop-start g l = record {
  workers : AreInOrder g.T.Worker.is_of l.executive l.workers.items;
  len : vec_len l.workers + vec_len l.starts ≡ vec_len l.fn.starts;
  room : vec_len l.fn.starts ≤ vec_capacity l.workers;
  few : vec_len l.fn.starts ≤ 128;
  starts : GoDown g.T.Worker.is_of l.executive (vec_len l.fn.starts) l.starts.items;
}

abbrev pub decreases-loop-start : goal.decreases-loop-start
decreases-loop-start g l = vec_len l.starts
