use Rattle.std.proofs.Common.{◌≡◌, map}
use Rattle.std.specs.List.{range_with_len}
use Rattle.set_gen.specs.Words.{after}
use Rattle.set_gen.specs.GeneratedSet.{generated_task, generated_gap, words_before}
use Rattle.set_gen.proofs.Draws.{words_for}
use Rattle.set_gen.proofs.tasks.draw.Given as goal

abbrev pub invariant-loop-i : goal.invariant-loop-i
invariant-loop-i l = record {
  tasks : l.tasks.items ≡ map (λ i. generated_task (words_for l.fn.words i) l.count i) (range_with_len 1 l.i);
  gaps : l.gaps.items ≡ map (λ i. generated_gap (words_for l.fn.words i) i) (range_with_len 1 l.i);
  words : l.words ≡ after (words_before l.i) l.fn.words;
}
