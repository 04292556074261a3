use Rattle.std.proofs.Common.{◌≡◌, suc, arith, false}
use borrow.Author.Count.{below_more}
use Rattle.part_fit.proofs.Placed.{takes}
use Rattle.part_fit.specs.Parts.{part_of}
use Rattle.part_fit.proofs.Least.{find-none, find-some}
use Rattle.part_fit.proofs.ProcessorLoads.{place-next}
use Rattle.part_fit.proofs.placing.least_for.Goals as goal

pub loop-place-init : goal.loop-place-init
loop-place-init c = λ set of here k below. absurd (omega arith)

pub taken-requires : goal.taken-requires
taken-requires c =
    let both = place-next _ c.requires.place c.loop-place-test.true in
    record { next = record { tasks = _; next = both.0 }; small = both.1 }

pub returns-in-Some-clause-place : goal.returns-in-Some-clause-place
returns-in-Some-clause-place c = λ set of here.
    let tried = c.in-Some.ensures.exactly (part_of set of (suc c.loop-place.place)) (place-next _ here c.loop-place-test.true).0 in
    (find-some (takes set of c.args.task.now) _ c.loop-place.place c.loop-place-test.true (c.loop-place.invariant set of here) tried.0, tried.1, c.loop-place-test.true)

pub loop-place-preserved : goal.loop-place-preserved
loop-place-preserved c = λ set of here.
    let fails = c.in_default.ensures.exactly (part_of set of (suc c.loop-place.place)) (place-next _ here c.loop-place-test.true).0 in
    below_more (λ k. takes set of c.args.task.now (suc k) ≡ false) c.loop-place.place (c.loop-place.invariant set of here) fails

pub returns-clause-place : goal.returns-clause-place
returns-clause-place c = λ set of here.
    find-none (takes set of c.args.task.now) _ (λ k below. c.loop-place.invariant set of here k (omega (arith, c.loop-place-test.false)))
