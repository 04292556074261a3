use Rattle.std.proofs.Common.{◌≡◌, ◌+◌, ◌≤◌, All, length, vec_len, vec_capacity}
use Rattle.executive.specs.Watching.{IsWatcherOf}
use Rattle.task_threads.specs.LivePasses.{IsRunner}
use Rattle.task_threads.specs.Workers.{AreInOrder}
use Rattle.task_threads.proofs.live.make_runners.Given as goal

abbrev pub invariant-loop-pass : goal.invariant-loop-pass
invariant-loop-pass g l = record {
  len : vec_len l.runners ≡ length l.yielded;
  watchers : All (λ w. IsWatcherOf l.serving.executive.now w) l.watchers.items;
  left : vec_len l.watchers + length l.yielded ≡ vec_len l.fn.passes;
  room : vec_len l.fn.passes ≤ vec_capacity l.runners;
  runners : AreInOrder IsRunner l.serving.executive.now l.runners.items;
}
