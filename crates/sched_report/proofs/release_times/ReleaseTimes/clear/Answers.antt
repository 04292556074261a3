use Rattle.std.proofs.Common.{None, slice_get, vec_len, ap, ◌∙◌}
use Rattle.std.specs.BTreeMap.{is_at}
use Rattle.std.specs.Map.{lookup}
use Rattle.sched_report.specs.ReleaseTimes.{key_cmp, recent_or}
use Rattle.sched_report.proofs.Stored.{none_recent}
use Rattle.sched_report.proofs.release_times.ReleaseTimes.clear.Goals as goal

pub returns : goal.returns
returns c = λ job.
    ap (λ entries. recent_or (slice_get c.empty_all.new.slots.items job.task.0) job.count (lookup (is_at (key_cmp (job.task.0, job.count))) entries)) c.clear.ensures.empty
    ∙ (ap (λ slots. recent_or (slice_get slots job.task.0) job.count None) c.empty_all.ensures
    ∙ none_recent (vec_len c.args.self.now.recent) job.task.0 job.count)
