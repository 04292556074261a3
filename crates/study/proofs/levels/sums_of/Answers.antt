use Rattle.std.proofs.Common.{◌≡◌, ℕ, ◌+◌, ◌*◌, ◌/◌, ◌≤◌, ◌∙◌, ap, arith, List, length, slice_get, Some}
use Rattle.mc_task.specs.declared.task.Task.{Task}
use Rattle.mc_task.specs.TaskSet.{IsTask}
use Rattle.mc_model.specs.Loads.{low_low, high_low}
use Rattle.mc_model.specs.Sums.{total}
use Rattle.set_gen.specs.Words.{words_of}
use Rattle.set_gen.specs.GeneratedSet.{generated_set, generated_task}
use Rattle.set_gen.specs.declared.tasks.Numbers.{Numbers}
use Rattle.set_gen.proofs.Draws.{words_more}
use Rattle.set_gen.proofs.GeneratedTasks.{generated_task-IsTask, generated_set-length}
use Rattle.study.specs.declared.levels.High.{High}
use Rattle.study.specs.Loads.{budget_at}
use Rattle.study.specs.Levels.{asks_at}
use Rattle.study.proofs.Walked.{made-here, load-step, load-end, low-low, low-high, low-budget, high-low, high-high, high-budget, asks-more, small-more, jobs-few, ask-small}
use Rattle.study.proofs.levels.sums_of.Goals as goal
use Rattle.study.proofs.levels.sums_of.Goals.{in-Low, in-High}

pub loop-i-preserved : goal.loop-i-preserved
loop-i-preserved c =
    let set : List Task = generated_set (words_of c.args.number) c.args.tasks in
    let i : ℕ = c.loop-i.i in
    let t : Task = generated_task c.loop-i.words c.args.tasks (i + 1) in
    let d : Numbers = c.draw_numbers-gap.result.0 in
    let of = c.draw_numbers-gap.ensures.task in
    let small = c.draw_numbers-gap.ensures.small in
    let inv = c.loop-i.invariant in
    let words = words_more (words_of c.args.number) c.loop-i.words c.draw_numbers-gap.new.words i inv.words c.draw_numbers-gap.ensures.words in
    let at : slice_get set i ≡ Some t = made-here (words_of c.args.number) c.loop-i.words c.args.tasks i c.loop-i-test.true inv.words in
    let task : IsTask t = generated_task-IsTask c.loop-i.words c.args.tasks (i + 1) c.requires.some_tasks c.requires.few_tasks (omega (arith, c.loop-i-test.true, c.requires.few_tasks)) in
    let few : 20000 / d.period ≤ 100 = jobs-few d.period small.least in
    let ask : d.low * (20000 / d.period) ≤ 1000000 = ask-small d.low (20000 / d.period) small.low few in
    elim c.match-numbers.branch [
      | in-Low w ↦ record {
        words = words;
        low_low = load-step low_low 20000 set i t c.loop-i.low_low _ _ d.low d.period at inv.low_low (low-low t d of w.in-Low.is) of.period w.low_low-is;
        high_low = load-step high_low 20000 set i t c.loop-i.high_low _ _ 0 d.period at inv.high_low (low-high t d of w.in-Low.is) of.period (omega (arith, w.high_low-is));
        highs = λ s least most.
            load-step (budget_at s) 20000 set i t (total (asks_at s) c.loop-i.highs.items) _ _ 0 d.period at (inv.highs s least most) (low-budget s t d of w.in-Low.is) of.period
            (omega (arith, ap (λ h. total (asks_at s) h.items) w.highs-is));
        few = rw w.highs-is (omega (arith, inv.few));
        small = rw w.highs-is inv.small;
        low_small = omega (arith, w.low_low-is, inv.low_small, ask);
        high_small = omega (arith, w.high_low-is, inv.high_small);
      }
      | in-High w ↦
          let h : High = record { budget = d.high; jobs = 20000 / d.period } in
          let items = ap (λ v. v.items) w.highs-is ∙ w.push.ensures.items in
          record {
            words = words;
            low_low = load-step low_low 20000 set i t c.loop-i.low_low _ _ 0 d.period at inv.low_low (high-low t d of w.in-High.is) of.period (omega (arith, w.low_low-is));
            high_low = load-step high_low 20000 set i t c.loop-i.high_low _ _ d.low d.period at inv.high_low (high-high t d of w.in-High.is) of.period w.high_low-is;
            highs = λ s least most.
                load-step (budget_at s) 20000 set i t (total (asks_at s) c.loop-i.highs.items) _ _ (d.high * s / 100) d.period at (inv.highs s least most)
                (high-budget s t d task of w.in-High.is small.high least most) of.period (asks-more s c.loop-i.highs.items _ h items);
            few = rw w.highs-is (omega (arith, inv.few, w.push.ensures.len));
            small = small-more c.loop-i.highs.items _ h items inv.small (record { budget = small.high; jobs = few });
            low_small = omega (arith, w.low_low-is, inv.low_small);
            high_small = omega (arith, w.high_low-is, inv.high_small, ask);
          }
    ]

pub returns : goal.returns
returns c =
    let set : List Task = generated_set (words_of c.args.number) c.args.tasks in
    let past : length set ≤ c.loop-i.i = omega (arith, generated_set-length (words_of c.args.number) c.args.tasks, c.loop-i-test.false) in
    let inv = c.loop-i.invariant in
    record {
      low_low = load-end low_low 20000 set c.loop-i.i _ _ past inv.low_low;
      high_low = load-end high_low 20000 set c.loop-i.i _ _ past inv.high_low;
      highs = λ s least most. load-end (budget_at s) 20000 set c.loop-i.i _ _ past (inv.highs s least most);
      few = omega (arith, inv.few, c.requires.few_tasks, c.loop-i.auto.i-end);
      small = inv.small;
    }
