use Rattle.std.proofs.Common.{◌≡◌, ℕ, ◌+◌, ◌<◌, ◌≤◌, ◌++◌, length, slice_index}
use Rattle.set_gen.specs.Words.{after}
use Rattle.set_gen.specs.GeneratedWork.{job_rows}
use Rattle.set_gen.specs.NextReleases.{IsNext}
use Rattle.set_gen.proofs.Scans.{released_of}
use Rattle.set_gen.proofs.jobs.Jobs.release.Given as goal

abbrev pub invariant-loop-i : goal.invariant-loop-i
invariant-loop-i l = record {
  rows : l.self.rows.items ≡ l.fn.self.rows.items ++ job_rows l.fn.self.words l.set.tasks (released_of l.gaps l.at l.i);
  words : l.self.words ≡ after (length (released_of l.gaps l.at l.i)) l.fn.self.words;
  count : length l.self.next.items ≡ length l.gaps;
  past : (k : ℕ) → k < l.i → IsNext (slice_index l.gaps k) (l.at + 1) (slice_index l.self.next.items k);
  left : (k : ℕ) → l.i ≤ k → k < length l.gaps → IsNext (slice_index l.gaps k) l.at (slice_index l.self.next.items k);
  later : l.at < l.least;
  within : l.least ≤ l.ticks;
  least : (k : ℕ) → k < l.i → l.least ≤ slice_index l.self.next.items k;
}
