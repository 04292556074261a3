use Rattle.std.proofs.Common.{◌≡◌, ◌+◌, ◌*◌, ◌≤◌, ℕ, drop, length}
use Rattle.std.specs.List.{AllByRecursion}
use Rattle.mc_model.specs.Loads.{load, low_low, high_low}
use Rattle.mc_model.specs.Sums.{total}
use Rattle.set_gen.specs.Words.{words_of, after}
use Rattle.set_gen.specs.GeneratedSet.{generated_set, words_before}
use Rattle.study.specs.Loads.{budget_at}
use Rattle.study.specs.Levels.{asks_at, IsSmall}
use Rattle.study.proofs.levels.sums_of.Given as goal

abbrev pub invariant-loop-i : goal.invariant-loop-i
invariant-loop-i l = record {
  words : l.words ≡ after (words_before l.i) (words_of l.number);
  low_low : l.low_low + load low_low 20000 (drop l.i (generated_set (words_of l.number) l.tasks)) ≡ load low_low 20000 (generated_set (words_of l.number) l.tasks);
  high_low : l.high_low + load high_low 20000 (drop l.i (generated_set (words_of l.number) l.tasks)) ≡ load high_low 20000 (generated_set (words_of l.number) l.tasks);
  highs : (s : ℕ) → 100 ≤ s → s ≤ 200 → total (asks_at s) l.highs.items + load (budget_at s) 20000 (drop l.i (generated_set (words_of l.number) l.tasks)) ≡ load (budget_at s) 20000 (generated_set (words_of l.number) l.tasks);
  few : length l.highs.items ≤ l.i;
  small : AllByRecursion IsSmall l.highs.items;
  low_small : l.low_low ≤ l.i * 1000000;
  high_small : l.high_low ≤ l.i * 1000000;
}
