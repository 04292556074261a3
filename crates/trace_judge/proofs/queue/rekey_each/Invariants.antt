use Rattle.std.proofs.Common.{◌≡◌, ◌<◌, ◌++◌, Some, map, take, drop, deque_capacity}
use Rattle.std.specs.List.{AllByRecursion}
use Rattle.trace_judge.specs.declared.queue.Queued.{Queued}
use Rattle.trace_judge.specs.Heads.{no_key}
use Rattle.trace_judge.specs.Queues.{rekeyed_job}
use Rattle.trace_judge.proofs.queue.rekey_each.Given as goal

-- the first jobs have their new keys, and the others their old ones
abbrev pub invariant-loop-position : goal.invariant-loop-position
invariant-loop-position l =
    (l.jobs.items ≡ take l.position (map (rekeyed_job l.rule (Some l.task)) l.fn.jobs.items) ++ drop l.position l.fn.jobs.items)
    × AllByRecursion (λ (q : Queued). q.key < no_key) (take l.position (map (rekeyed_job l.rule (Some l.task)) l.fn.jobs.items))
    × (deque_capacity l.jobs ≡ deque_capacity l.fn.jobs)
