use Rattle.std.proofs.Common.{◌≤◌, ◌<◌, ◌^◌, ℕ, List, [], replicate, refl, sym, arith}
use Rattle.std.proofs.lemmas.List.{length-replicate}
use Rattle.trace_judge.specs.declared.queue.Queued.{Queued}
use Rattle.trace_judge.specs.Heads.{no_key}
use Rattle.trace_judge.specs.Queues.{AreQueues}
use Rattle.trace_judge.proofs.Queues.{none_entries, none_heads, none_queues}
use Rattle.trace_judge.proofs.pending_queues.PendingQueues.new.Goals as goal

-- lists without jobs are queues
new_queues : (n : ℕ) → 1 ≤ n → n < 2 ^ 32 → AreQueues (replicate n []) (replicate n no_key)
new_queues n some few = record {
  some = omega (arith, some, length-replicate {A = List Queued} n []);
  few = omega (arith, few, length-replicate {A = List Queued} n []);
  each = none_queues n;
  heads_are = sym (none_heads n);
}

pub invariant_of-result : goal.invariant_of-result
invariant_of-result c = rw (c.in_ok-heads.ensures, c.in_ok-queues.ensures) (new_queues c.args.count c.requires c.ranges.count.fits)

pub returns : goal.returns
returns c = rw (c.in_ok-queues.ensures, length-replicate {A = List Queued} c.args.count [], none_entries 1 c.args.count) refl
