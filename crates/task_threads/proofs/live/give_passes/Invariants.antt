use Rattle.std.proofs.Common.{◌≡◌, ◌≤◌, length, vec_len, vec_capacity}
use Rattle.task_threads.specs.LivePasses.{IsLivePass}
use Rattle.task_threads.specs.Workers.{AreInOrder}
use Rattle.task_threads.proofs.live.give_passes.Given as goal

abbrev pub invariant-loop-runner : goal.invariant-loop-runner
invariant-loop-runner l = record {
  len : vec_len l.passes ≡ length l.yielded;
  room : vec_len l.fn.runners ≤ vec_capacity l.passes;
  passes : AreInOrder IsLivePass l.executive l.passes.items;
}
