use Rattle.std.proofs.Common.{◌≡◌, map, ap, ◌∙◌, arith}
use Rattle.std.specs.List.{range_with_len}
use Rattle.set_gen.specs.GeneratedSet.{generated_set, generated_gaps, generated_task, generated_gap}
use Rattle.set_gen.proofs.Draws.{words_for, generated_more, words_more}
use Rattle.set_gen.proofs.tasks.draw.Goals as goal

pub loop-i-preserved : goal.loop-i-preserved
loop-i-preserved c = record {
  tasks = generated_more (λ w i. generated_task w c.args.count i) c.args.words.now c.loop-i.words c.loop-i.i _ _ _ c.loop-i.invariant.tasks c.loop-i.invariant.words c.in_ok-task.ensures.task c.in_ok-push.ensures.items;
  gaps = generated_more (λ w i. generated_gap w i) c.args.words.now c.loop-i.words c.loop-i.i _ _ _ c.loop-i.invariant.gaps c.loop-i.invariant.words c.in_ok-task.ensures.gap c.in_ok-push-2.ensures.items;
  words = words_more c.args.words.now c.loop-i.words c.draw_one.new.words c.loop-i.i c.loop-i.invariant.words c.in_ok-task.ensures.words;
}

pub returns-clause-tasks : goal.returns-clause-tasks
unfolding generated_set
returns-clause-tasks c =
    let all : c.loop-i.i ≡ c.args.count = omega arith in
    c.loop-i.invariant.tasks ∙ ap (λ n. map (λ i. generated_task (words_for c.args.words.now i) c.args.count i) (range_with_len 1 n)) all

pub returns-clause-gaps : goal.returns-clause-gaps
unfolding generated_gaps
returns-clause-gaps c =
    let all : c.loop-i.i ≡ c.args.count = omega arith in
    c.loop-i.invariant.gaps ∙ ap (λ n. map (λ i. generated_gap (words_for c.args.words.now i) i) (range_with_len 1 n)) all
