use Rattle.std.proofs.Common.{◌≡◌, false, take}
use Rattle.std.specs.List.{list_any}
use Rattle.trace_judge.specs.Queues.{has_count}
use Rattle.trace_judge.proofs.queue.position_of.Given as goal

abbrev pub invariant-loop-position : goal.invariant-loop-position
invariant-loop-position l = list_any (has_count l.count) (take l.position l.jobs.items) ≡ false
