use Rattle.std.proofs.Common.{◌≤◌, ◌<◌, ◌∙◌, length, refl, sym, ap, arith, eq-eqb, ne_eqb}
use Rattle.std.proofs.lemmas.List.{take_all}
use Rattle.std.proofs.lemmas.Option.{slice_get_read}
use Rattle.part_fit.proofs.Sublists.{part_of-none, part_of-next}
use Rattle.part_fit.proofs.parts.tasks_on.Goals as goal
use Rattle.part_fit.proofs.parts.tasks_on.Goals.{then-of-i+in_ok-push, else-of-i}

pub loop-i-init : goal.loop-i-init
loop-i-init c = c.new-own.ensures.items ∙ sym (part_of-none _ _)

pub loop-i-preserved : goal.loop-i-preserved
loop-i-preserved c =
    let tasks = c.as_slice-tasks.result.now in
    let here = slice_get_read tasks (length tasks) c.loop-i.i c.index-tasks-i.result refl c.loop-i-test.true c.index-tasks-i.is in
    let within : c.loop-i.i < length c.args.of.now = omega (arith, c.loop-i-test.true, c.requires, ap length c.as_slice-tasks.ensures.value) in
    let next = part_of-next tasks c.args.of.now c.args.processor c.loop-i.i c.index-tasks-i.result here within in
    elim c.if-of-i.branch [
      | then-of-i+in_ok-push w ↦ rw (next, eq-eqb _ _ w.if-of-i.true, w.own-is, w.in_ok-push.ensures.items, c.loop-i.invariant) refl
      | else-of-i w ↦ rw (next, ne_eqb _ _ w.if-of-i.false, w.own-is) c.loop-i.invariant
    ]

pub returns : goal.returns
returns c =
    let most : length c.args.of.now ≤ c.loop-i.i = omega (arith, c.loop-i-test.false, c.requires, ap length c.as_slice-tasks.ensures.value) in
    rw (c.loop-i.invariant, take_all c.loop-i.i c.args.of.now most, c.as_slice-tasks.ensures.value) refl
