use Rattle.std.proofs.Common.{◌≡◌, ℕ, ◌+◌, ◌<◌, ◌≤◌, length, get_or}
use Rattle.study.proofs.counting.add.Given as goal

abbrev pub invariant-loop-k : goal.invariant-loop-k
invariant-loop-k l = record {
  long : length l.counts ≡ 11;
  done : (i : ℕ) → i < l.k → get_or l.counts i 0 ≡ get_or l.initial.counts i 0 + get_or l.more i 0;
  left : (i : ℕ) → l.k ≤ i → get_or l.counts i 0 ≡ get_or l.initial.counts i 0;
}
