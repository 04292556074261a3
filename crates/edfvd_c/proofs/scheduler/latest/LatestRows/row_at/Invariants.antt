use Rattle.std.proofs.Common.{◌≡◌, ◌<◌}
use Rattle.edfvd_c.proofs.scheduler.RunBegins.{end_of}
use Rattle.edfvd_c.proofs.scheduler.latest.LatestRows.row_at.Given as goal

-- the end of the run that is looked at next
abbrev pub invariant-loop-back : goal.invariant-loop-back
invariant-loop-back l = (l.end ≡ end_of l.self l.back) × (l.number < l.end)
