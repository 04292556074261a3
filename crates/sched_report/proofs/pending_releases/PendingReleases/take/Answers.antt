use Rattle.std.proofs.Common.{refl}
use Rattle.sched_report.proofs.Stored.{low_changed, high_changed}
use Rattle.sched_report.proofs.pending_releases.PendingReleases.take.Goals as goal

pub returns-in-Low-clause-change : goal.returns-in-Low-clause-change
returns-in-Low-clause-change c = rw c.in-Low.is (low_changed _ _ c.args.job _ c.take.ensures.change (λ j. refl))

pub returns-in-High-clause-change : goal.returns-in-High-clause-change
returns-in-High-clause-change c = rw c.in-High.is (high_changed _ _ c.args.job _ c.take-in-High.ensures.change (λ j. refl))
