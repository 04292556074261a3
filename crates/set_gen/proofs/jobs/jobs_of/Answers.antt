use Rattle.std.proofs.Common.{[]}
use Rattle.set_gen.specs.GeneratedWork.{releases_at, releases_below}
use Rattle.set_gen.proofs.Scans.{rows-more, words-more, releases_below-until}
use Rattle.set_gen.proofs.jobs.jobs_of.Goals as goal

pub loop-at-preserved : goal.loop-at-preserved
loop-at-preserved c =
    let pass = c.in_ok-at.ensures in
    let kept = c.loop-at.invariant in
    let below = releases_below-until c.args.gaps.now c.loop-at.at c.in_ok-at.at pass.later pass.none in
    record {
      rows = rw below (rows-more c.args.set.now.tasks c.args.words [] c.loop-at.jobs.rows.items c.release.new.self.rows.items c.loop-at.jobs.words (releases_below c.args.gaps.now c.loop-at.at) (releases_at c.args.gaps.now c.loop-at.at) kept.rows kept.words pass.rows);
      words = rw below (words-more c.args.words c.loop-at.jobs.words c.release.new.self.words (releases_below c.args.gaps.now c.loop-at.at) (releases_at c.args.gaps.now c.loop-at.at) kept.words pass.words);
      next = pass.next;
      within = pass.within;
    }
