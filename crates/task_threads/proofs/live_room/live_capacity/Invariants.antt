use Rattle.std.proofs.Common.{◌≡◌, ◌+◌, ◌*◌, ◌/◌, ◌≤◌, drop, length}
use Rattle.mc_model.specs.Sums.{total}
use Rattle.task_threads.specs.LivePasses.{live_capacity}
use Rattle.task_threads.proofs.live_room.live_capacity.Given as goal

abbrev pub invariant-loop-position : goal.invariant-loop-position
invariant-loop-position l = record {
  set : length l.set.tasks ≤ 128;
  few : l.capacity ≤ 100000 + l.position * 100001;
  sum : l.capacity + total (λ t. l.ticks / t.period + 1) (drop l.position l.set.tasks) ≡ live_capacity l.set.tasks l.ticks;
}
