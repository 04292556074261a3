use Rattle.std.proofs.Common.{◌≡◌, refl, ap, ◌∙◌}
use Rattle.set_gen.specs.Words.{word, rest}
use Rattle.set_gen.specs.GeneratedSet.{period, task_name, generated_task, words_taken, generated_gap}
use Rattle.set_gen.proofs.Draws.{high_tasks, halves}
use Rattle.set_gen.proofs.GeneratedTasks.{odd, even}
use Rattle.set_gen.proofs.tasks.draw_numbers.Goals as goal
use Rattle.set_gen.proofs.tasks.draw_numbers.Goals.{then-number-eq1, else-number-eq1}

pub returns : goal.returns
unfolding generated_task words_taken generated_gap
returns c =
    let length : c.period-period.result ≡ period (word c.args.words.now) = c.period-period.ensures.value ∙ ap period c.take.ensures.word in
    elim c.if-number-eq1.branch [
      | then-number-eq1 w ↦
          let is = odd c.args.number w.if-number-eq1.true in
          let tasks : w.div_ceil.result ≡ high_tasks c.args.count = w.div_ceil.ensures ∙ halves c.args.count in
          let budget : w.take-then-number-eq1.result ≡ word (rest c.args.words.now) = w.take-then-number-eq1.ensures.word ∙ ap word c.take.ensures.rest in
          let left = w.words-is ∙ w.take-then-number-eq1.ensures.rest ∙ ap rest c.take.ensures.rest in
          let last : c.take-extra_gap.result ≡ word (rest (rest c.args.words.now)) = c.take-extra_gap.ensures.word ∙ ap word left in
          record {
            task = rw (w.numbers-is, is, ← length, ← tasks, ← budget) (w.high_task-numbers.ensures.task (task_name c.args.number));
            small = rw w.numbers-is w.high_task-numbers.ensures.small;
            gap = rw (is, length, last) refl;
            words = rw is (c.take-extra_gap.ensures.rest ∙ ap rest left);
          }
      | else-number-eq1 w ↦
          let is = even c.args.number w.if-number-eq1.false in
          let left = w.words-is ∙ c.take.ensures.rest in
          let last : c.take-extra_gap.result ≡ word (rest c.args.words.now) = c.take-extra_gap.ensures.word ∙ ap word left in
          record {
            task = rw (w.numbers-is, is, ← length) (w.low_task-numbers.ensures.task (task_name c.args.number));
            small = rw w.numbers-is w.low_task-numbers.ensures.small;
            gap = rw (is, length, last) refl;
            words = rw is (c.take-extra_gap.ensures.rest ∙ ap rest left);
          }
    ]
