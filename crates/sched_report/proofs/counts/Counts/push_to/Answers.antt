use Rattle.std.proofs.Common.{append_assoc, refl}
use Rattle.std.proofs.lemmas.List.{append-nil}
use Rattle.sched_report.specs.ReportText.{counts_text}
use Rattle.sched_report.proofs.counts.Counts.push_to.Goals as goal

pub returns : goal.returns
unfolding counts_text
returns c =
    rw (c.in_ok-push_count-6.ensures, c.in_ok-push_count-5.ensures, c.in_ok-push_count-4.ensures)
    (rw (c.in_ok-push_count-3.ensures, c.in_ok-push_count-2.ensures, c.in_ok-push_count.ensures) (simp (append_assoc, append-nil) refl))
