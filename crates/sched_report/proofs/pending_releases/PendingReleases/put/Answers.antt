use Rattle.std.proofs.Common.{refl}
use Rattle.sched_report.proofs.Stored.{low_changed, high_changed}
use Rattle.sched_report.proofs.pending_releases.PendingReleases.put.Goals as goal

pub returns-in_ok-put-in-Low : goal.returns-in_ok-put-in-Low
returns-in_ok-put-in-Low c = rw c.in-Low.is (low_changed _ _ c.args.job _ c.in_ok-put-in-Low.ensures (λ j. refl))

pub returns-in_ok-put-in-High : goal.returns-in_ok-put-in-High
returns-in_ok-put-in-High c = rw c.in-High.is (high_changed _ _ c.args.job _ c.in_ok-put-in-High.ensures (λ j. refl))
