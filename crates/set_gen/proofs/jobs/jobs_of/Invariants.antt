use Rattle.std.proofs.Common.{◌≡◌, ◌-◌, ◌≤◌, length}
use Rattle.set_gen.specs.Words.{after}
use Rattle.set_gen.specs.GeneratedWork.{releases_below, job_rows}
use Rattle.set_gen.specs.NextReleases.{AreNext}
use Rattle.set_gen.proofs.jobs.jobs_of.Given as goal

abbrev pub invariant-loop-at : goal.invariant-loop-at
invariant-loop-at l = record {
  rows : l.jobs.rows.items ≡ job_rows l.fn.words l.set.tasks (releases_below l.gaps l.at);
  words : l.jobs.words ≡ after (length (releases_below l.gaps l.at)) l.fn.words;
  next : AreNext l.gaps l.at l.jobs.next.items;
  within : l.at ≤ l.ticks;
}

abbrev pub decreases-loop-at : goal.decreases-loop-at
decreases-loop-at l = l.ticks - l.at
