use Rattle.std.proofs.Common.{append_assoc, refl}
use Rattle.std.proofs.lemmas.List.{append-nil}
use Rattle.sched_report.specs.Counts.{tally_line}
use Rattle.sched_report.proofs.writing.push_task.Goals as goal

pub returns : goal.returns
unfolding tally_line
returns c =
    rw (c.in_ok-extend_from_slice-4.ensures.items, c.in_ok-push_response.ensures, c.in_ok-push_count.ensures, c.in_ok-push_to.ensures, c.of.ensures)
    (rw (c.in_ok-extend_from_slice-3.ensures.items, c.in_ok-extend_from_slice-2.ensures.items, c.in_ok-extend_from_slice.ensures.items)
    (simp (append_assoc, append-nil) refl))
