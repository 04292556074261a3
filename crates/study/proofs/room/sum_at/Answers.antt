use Rattle.std.proofs.Common.{◌≡◌, sym, ◌∙◌, ap, refl, arith, length, drop}
use Rattle.std.proofs.lemmas.List.{drop_all}
use Rattle.std.proofs.lemmas.Option.{slice_get_read}
use Rattle.mc_model.specs.Loads.{load, high_high}
use Rattle.mc_model.proofs.Walk.{load_more}
use Rattle.study.specs.Loads.{budget_at}
use Rattle.study.proofs.AtPercent.{load-at}
use Rattle.study.proofs.room.sum_at.Goals as goal

pub loop-task-preserved : goal.loop-task-preserved
loop-task-preserved c =
    let tasks = c.as_slice-tasks.result.now in
    record {
      sum = rw c.share-sum.ensures.value
          (load_more (budget_at c.args.s) c.args.lcm tasks c.loop-task.task-index c.task-item.result _ _
          (slice_get_read tasks (length tasks) c.loop-task.task-index c.task-item.result refl c.loop-task-test.true c.task-item.is) c.loop-task.invariant.sum);
      small = omega arith;
    }

pub returns : goal.returns
returns c =
    let tasks = c.as_slice-tasks.result.now in
    let i = c.loop-task.task-index in
    let none : load (budget_at c.args.s) c.args.lcm (drop i tasks) ≡ 0 = ap (λ ts. load (budget_at c.args.s) c.args.lcm ts) (drop_all i tasks c.loop-task-test.false) in
    let all : c.loop-task.sum ≡ load (budget_at c.args.s) c.args.lcm tasks = omega (arith, none, c.loop-task.invariant.sum) in
    all ∙ ap (λ ts. load (budget_at c.args.s) c.args.lcm ts) c.as_slice-tasks.ensures.value
    ∙ sym (load-at high_high (budget_at c.args.s) c.args.s c.args.lcm (λ t. refl) c.args.set.now.tasks)
