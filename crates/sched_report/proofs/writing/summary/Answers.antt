use Rattle.std.proofs.Common.{◌≡◌, ◌-◌, append_assoc, length, reverse, refl, ap, ◌∙◌, arith}
use Rattle.mc_model.specs.Runs.{expand}
use Rattle.sched_report.specs.ReportText.{how_many, is_tick, summary_text}
use Rattle.sched_report.specs.Counts.{sum_tallies}
use Rattle.sched_report.proofs.Bounds.{all_small, few_rows, ticks-idle}
use Rattle.sched_report.proofs.Numbered.{length-numbered}
use Rattle.sched_report.proofs.Texts.{sum_is}
use Rattle.std.proofs.lemmas.List.{append-nil}
use Rattle.sched_report.proofs.writing.summary.Goals as goal

pub sum_of-requires-clause-few : goal.sum_of-requires-clause-few
sum_of-requires-clause-few c =
    let long : length c.in_ok-tally.tally.tasks.items ≡ length c.args.set.now.tasks = ap length c.in_ok-tally.ensures.tasks ∙ length-numbered _ 1 c.args.set.now.tasks in
    omega (arith, long, c.len-is_set.ensures.set.few)

pub sum_of-requires-clause-small : goal.sum_of-requires-clause-small
sum_of-requires-clause-small c =
    all_small c.args.set.now.tasks (reverse (expand c.args.runs.now)) c.in_ok-tally.tally.tasks.items c.in_ok-tally.ensures.tasks (few_rows c.args.runs.now c.requires.runs)

pub overflow_sub-tally : goal.overflow_sub-tally
overflow_sub-tally c = omega (arith, c.in_ok-tally.ensures.tick, c.in_ok-tally.ensures.idle, ticks-idle (reverse (expand c.args.runs.now)))

pub returns : goal.returns
unfolding summary_text
returns c =
    let set = c.args.set.now.tasks in
    let h = reverse (expand c.args.runs.now) in
    let tally = c.in_ok-tally.tally in
    let t = c.in_ok-tally.ensures in
    let sums = c.sum_of.ensures ∙ (ap sum_tallies t.tasks ∙ sum_is set h 1 set) in
    let ran : tally.tick - tally.idle ≡ how_many is_tick h = omega (arith, t.tick, t.idle, ticks-idle h) in
    rw (c.in_ok-extend_from_slice.ensures.items, c.in_ok-push_count-3.ensures, c.in_ok-push_count-2.ensures, c.in_ok-push_count.ensures)
    (rw (c.in_ok-push_to.ensures, c.new-text.ensures.items, sums, ran, t.idle, t.switches) (simp (append_assoc, append-nil) refl))
