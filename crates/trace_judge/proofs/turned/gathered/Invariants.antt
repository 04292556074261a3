use Rattle.std.proofs.Common.{◌≡◌, ℕ, ◌≤◌, true, ◌++◌, length}
use Rattle.trace_judge.specs.Quiet.{are_quiet}
use Rattle.trace_judge.specs.Turned.{turned_of}
use Rattle.trace_judge.proofs.turned.gathered.Given as goal

abbrev pub invariant-loop-rank : goal.invariant-loop-rank
invariant-loop-rank l =
    (l.turned.items ++ turned_of l.set.tasks l.since l.state.ticks l.remaining ≡ turned_of l.set.tasks l.since l.state.ticks l.state.waiting.entries)
    × ((u : ℕ) → u ≤ l.until → are_quiet l.set.tasks l.state.ticks u l.remaining ≡ true → are_quiet l.set.tasks l.state.ticks u l.state.waiting.entries ≡ true)

abbrev pub decreases-loop-rank : goal.decreases-loop-rank
decreases-loop-rank l = length l.remaining
