use Rattle.std.proofs.Common.{◌<◌, List, Option, Some, sym, subst, arith}
use Rattle.std.specs.List.{AllByRecursion}
use Rattle.mc_task.specs.declared.task.Task.{Task}
use Rattle.trace_judge.specs.declared.queue.Queued.{Queued}
use Rattle.trace_judge.specs.Heads.{no_key}
use Rattle.trace_judge.specs.Queues.{IsQueue, AreKeyed}
use Rattle.trace_judge.proofs.Switched.{ordered_rekeyed}
use Rattle.trace_judge.proofs.queue.Queue.switch.Goals as goal

pub returns-in-Some-clause-ordered : goal.returns-in-Some-clause-ordered
returns-in-Some-clause-ordered c =
    let high = c.requires.keyed.0 in
    let all = subst (λ (qs : List Queued). AreKeyed c.args.rule high c.args.task.now qs) (sym c.self.view_is) c.requires.keyed.1 in
    let mine = subst (λ (o : Option Task). AreKeyed c.args.rule high o c.self.inside.jobs.items) c.in-Some.is all in
    let below = subst (λ (qs : List Queued). AllByRecursion (λ (q : Queued). q.key < no_key) qs) c.rekey_each.ensures.items c.rekey_each.ensures.below in
    subst IsQueue (sym c.rekey_each.ensures.items) (ordered_rekeyed c.args.rule high (Some c.in-Some.task) c.self.inside.jobs.items c.self.invariant.0 mine below)

pub invariant_of-self : goal.invariant_of-self
invariant_of-self c = (returns-in-Some-clause-ordered c, omega (arith, c.self.invariant.1, c.rekey_each.ensures.capacity))
