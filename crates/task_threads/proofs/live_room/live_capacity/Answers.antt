use Rattle.std.proofs.Common.{◌≡◌, ℕ, ◌+◌, ◌/◌, ◌∙◌, drop, sym, subst, arith}
use Rattle.std.proofs.Math.Nat.{div-le_self}
use Rattle.mc_task.specs.declared.task.Task.{Task}
use Rattle.mc_model.specs.Sums.{total}
use Rattle.task_threads.specs.LivePasses.{live_capacity}
use Rattle.task_threads.proofs.LiveRoom.{capacity_more, capacity_all}
use Rattle.task_threads.proofs.live_room.live_capacity.Goals as goal

pub loop-position-preserved : goal.loop-position-preserved
loop-position-preserved c =
    let l = c.loop-position.invariant in
    let set = c.args.set.now.tasks in
    let n = c.args.ticks in
    let few = l.few in
    let most = c.requires in
    let part = div-le_self n c.from.result in
    let sum = capacity_more set c.loop-position.position n c.loop-position.capacity (live_capacity set n) c.in-Some.found (sym c.get.ensures.value ∙ c.in-Some.is) l.sum in
    record {
      set = l.set;
      few = omega (arith, few, most, part);
      sum = subst (λ (q : ℕ). c.loop-position.capacity + (n / q + 1) + total (λ (t : Task). n / t.period + 1) (drop (c.loop-position.position + 1) set) ≡ live_capacity set n) (sym c.from.ensures) sum;
    }

pub returns-clause-capacity : goal.returns-clause-capacity
returns-clause-capacity c =
    let l = c.loop-position.invariant in
    let end = c.loop-position-test.false in
    let count = c.len-position-end.ensures.count in
    capacity_all c.args.set.now.tasks c.loop-position.position c.args.ticks c.loop-position.capacity (live_capacity c.args.set.now.tasks c.args.ticks) (omega (arith, end, count)) l.sum
