use Rattle.std.proofs.Common.{◌≡◌, ◌≤◌, ◌+◌, ◌∷◌, [], ◌++◌, ◌∙◌, suc, refl, sym, ap, arith, length, length-append, length-set}
use Rattle.std.proofs.lemmas.List.{length-replicate}
use Rattle.part_fit.specs.ProcessorLoads.{no_loads}
use Rattle.part_fit.proofs.Placed.{placed-next, placed-end, first_fit-IsPartition}
use Rattle.part_fit.proofs.ProcessorLoads.{none-AreProcessorLoads, more-AreProcessorLoads, kept-IsReady}
use Rattle.part_fit.proofs.placing.fit.Goals as goal

pub loop-i-init : goal.loop-i-init
loop-i-init c = record {
  long = ap length c.new-of.ensures.items;
  same = rw c.new-of.ensures.items refl;
  all = ap length c.in_ok-all.ensures ∙ length-replicate c.args.processors no_loads;
  ready =
      kept-IsReady c.args.set.now.tasks _ _ _ 0 c.as_slice-tasks.ensures.tasks c.as_slice-tasks.ensures.value (ap length c.new-of.ensures.items)
      (rw (c.new-of.ensures.items, c.in_ok-all.ensures) (none-AreProcessorLoads c.args.set.now.tasks c.args.processors));
}

pub least_for-requires : goal.least_for-requires
least_for-requires c = record { set = _; of = _; place = c.loop-i.invariant.ready _ _ c.deref.ensures.value c.loop-i-test.true c.index-tasks-i.is }

pub overflow_cast-place : goal.overflow_cast-place
overflow_cast-place c =
    let found = c.in-Some.ensures.place _ _ (c.loop-i.invariant.ready _ _ c.deref.ensures.value c.loop-i-test.true c.index-tasks-i.is) in
    omega (arith, found.2, ap length c.deref.ensures.value)

pub overflow_add-place : goal.overflow_add-place
overflow_add-place c =
    let found = c.in-Some.ensures.place _ _ (c.loop-i.invariant.ready _ _ c.deref.ensures.value c.loop-i-test.true c.index-tasks-i.is) in
    omega (arith, found.2, ap length c.deref.ensures.value)

pub index_mut-requires : goal.index_mut-requires
index_mut-requires c =
    let found = c.in-Some.ensures.place _ _ (c.loop-i.invariant.ready _ _ c.deref.ensures.value c.loop-i-test.true c.index-tasks-i.is) in
    omega (arith, found.2, c.deref.ensures.len)

pub returns-in-None-clause-no_room : goal.returns-in-None-clause-no_room
returns-in-None-clause-no_room c =
    let here = c.loop-i.invariant.ready _ _ refl c.loop-i-test.true c.index-tasks-i.is in
    let none = rw (c.deref.ensures.value, c.loop-i.invariant.all) at c.in-None.ensures.place _ _ here in (
      rw (← c.loop-i.invariant.same, placed-next c.args.set.now.tasks c.args.processors _ c.loop-i.of.items _ here.next, none, c.loop-i.invariant.long) refl,
      (omega arith, omega (arith, c.loop-i-test.true, ap length c.as_slice-tasks.ensures.value)),
    )

pub loop-i-preserved : goal.loop-i-preserved
loop-i-preserved c =
    let here = c.loop-i.invariant.ready _ _ refl c.loop-i-test.true c.index-tasks-i.is in
    let found = rw c.deref.ensures.value at c.in-Some.ensures.place _ _ here in
    let some = rw c.loop-i.invariant.all at found.0 in
    let place = c.in-Some.place in
    let grown : c.push.new.self.items ≡ c.loop-i.of.items ++ suc place ∷ [] = c.in_ok-push-in-Some.ensures.items ∙ ap (λ k. c.loop-i.of.items ++ k ∷ []) (omega arith) in
    let long : length c.push.new.self.items ≡ length c.loop-i.of.items + 1 = ap length grown ∙ length-append c.loop-i.of.items (suc place ∷ []) in
    record {
      long = omega (arith, long);
      same = rw (long, grown) (sym (rw some at (placed-next c.args.set.now.tasks c.args.processors _ c.loop-i.of.items _ here.next)) ∙ c.loop-i.invariant.same);
      all = length-set c.loop-i.all.items place c.in-Some.loads ∙ c.loop-i.invariant.all;
      ready =
          kept-IsReady c.args.set.now.tasks _ _ _ (c.loop-i.i + 1) c.as_slice-tasks.ensures.tasks c.as_slice-tasks.ensures.value (omega (arith, long))
          (rw grown (more-AreProcessorLoads c.args.set.now.tasks c.loop-i.of.items _ _ place c.in-Some.loads here found.2 found.1 c.in-Some.ensures.small));
    }

pub returns-clause-ok : goal.returns-clause-ok
returns-clause-ok c =
    let past : length c.args.set.now.tasks ≤ length c.loop-i.of.items = omega (arith, c.loop-i-test.false, ap length c.as_slice-tasks.ensures.value) in
    sym c.loop-i.invariant.same ∙ placed-end c.args.set.now.tasks c.args.processors _ c.loop-i.of.items past

pub returns-clause-parted : goal.returns-clause-parted
returns-clause-parted c = first_fit-IsPartition c.args.set.now.tasks c.args.processors c.loop-i.of.items c.as_slice-tasks.ensures.tasks (returns-clause-ok c)
