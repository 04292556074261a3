use Rattle.std.proofs.Common.{◌≡◌, ◌+◌, ◌<◌, ◌≤◌, ◌^◌, drop, length, sym, ◌∙◌, ap, arith, refl}
use Rattle.tick_frac.specs.Numbers.{lcm}
use Rattle.mc_model.specs.Loads.{lcm_from, range_fault_from}
use Rattle.tick_frac.proofs.Multiples.{lcm-pos}
use Rattle.mc_model.proofs.Walk.{lcm_more, range_more, range_found, range_end, lcm_end, IsTask-at}
use Rattle.load_sum.proofs.loads.common_multiple.Goals as goal

pub returns-in-None-clause-range : goal.returns-in-None-clause-range
returns-in-None-clause-range c =
    let large : 2 ^ 60 < lcm c.loop-i.lcm c.task_at-t.result.period = rw (← c.from.ensures) (c.in-None.ensures.none.0 refl) in
    sym c.loop-i.invariant.fault ∙ range_found c.args.set.now.tasks c.loop-i.i _ c.loop-i.lcm c.task_at-t.result c.task_at-t.ensures large

pub loop-i-preserved : goal.loop-i-preserved
loop-i-preserved c =
    let is : c.in-Some.multiple ≡ lcm c.loop-i.lcm c.task_at-t.result.period = c.in-Some.ensures.some.0 ∙ ap (λ p. lcm c.loop-i.lcm p) c.from.ensures in
    let small : lcm c.loop-i.lcm c.task_at-t.result.period ≤ 2 ^ 60 = rw (← is) c.in-Some.ensures.some.1 in
    let right = IsTask-at c.args.set.now.tasks c.loop-i.i c.task_at-t.result c.len-count.ensures.set.each c.task_at-t.ensures in
    record {
      fault = ap (λ m. range_fault_from (c.loop-i.i + 1 + 1) m (drop (c.loop-i.i + 1) c.args.set.now.tasks)) is ∙ sym (range_more c.args.set.now.tasks c.loop-i.i (c.loop-i.i + 1) c.loop-i.lcm c.task_at-t.result c.task_at-t.ensures small) ∙ c.loop-i.invariant.fault;
      same = ap (λ m. lcm_from m (drop (c.loop-i.i + 1) c.args.set.now.tasks)) is ∙ sym (lcm_more c.args.set.now.tasks c.loop-i.i c.loop-i.lcm c.task_at-t.result c.task_at-t.ensures) ∙ c.loop-i.invariant.same;
      above = rw is (lcm-pos c.loop-i.lcm c.task_at-t.result.period c.loop-i.invariant.above right.period.0);
      small = c.in-Some.ensures.some.1;
    }

pub returns-clause-ok : goal.returns-clause-ok
returns-clause-ok c =
    let past : length c.args.set.now.tasks ≤ c.loop-i.i = omega arith in
    (sym c.loop-i.invariant.fault ∙ range_end c.args.set.now.tasks c.loop-i.i _ _ past, sym (lcm_end c.args.set.now.tasks c.loop-i.i c.loop-i.lcm past) ∙ c.loop-i.invariant.same, c.loop-i.invariant.above, c.loop-i.invariant.small)
