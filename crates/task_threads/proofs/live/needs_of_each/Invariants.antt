use Rattle.std.proofs.Common.{◌≡◌, ◌+◌, ◌≤◌, length, vec_len, vec_capacity}
use Rattle.task_threads.specs.LivePasses.{AreNeeds}
use Rattle.task_threads.proofs.live.needs_of_each.Given as goal

abbrev pub invariant-loop-task : goal.invariant-loop-task
invariant-loop-task l = record {
  len : vec_len l.needs + 1 ≡ l.task;
  room : length l.set.tasks ≤ vec_capacity l.needs;
  needs : AreNeeds l.set.tasks l.needs.items;
}
