use Rattle.sched_report.proofs.Steps.{found, release_step, idle_run}
use Rattle.sched_report.proofs.tally.Tally.count.Goals as goal

pub returns-in_ok-release-in-Release : goal.returns-in_ok-release-in-Release
returns-in_ok-release-in-Release c = λ tasks rule g l t.
    let legal = rw c.in-Release.is at l in
    rw c.in-Release.is
    (release_step tasks rule c.in-Release.job c.in-Release.kept g _ _ legal t (c.in_ok-release-in-Release.ensures _ (found tasks g c.in-Release.job.task.0 _ legal.0 t.tasks)))

pub returns-in-Ticks : goal.returns-in-Ticks
returns-in-Ticks c = λ tasks rule g l t. rw c.in-Ticks.is (c.tick.ensures tasks rule g (rw c.in-Ticks.is at l) t)

pub returns-in-Idles : goal.returns-in-Idles
returns-in-Idles c = λ tasks rule g l t. rw c.in-Idles.is (idle_run tasks c.in-Idles.length g _ _ t c.rest.ensures)
