use Rattle.std.proofs.Common.{◌≡◌, ◌≤◌, length, vec_len, vec_capacity}
use Rattle.executive.specs.Opening.{AreFresh}
use Rattle.executive.proofs.executive.Executive.make_passes.Given as goal

abbrev pub invariant-loop-seat : goal.invariant-loop-seat
invariant-loop-seat l = record {
  task : l.task ≡ length l.yielded;
  len : vec_len l.passes ≡ l.task;
  room : l.self.tasks ≤ vec_capacity l.passes;
  fresh : AreFresh l.self l.passes.items;
}
