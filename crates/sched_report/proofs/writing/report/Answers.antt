use Rattle.std.proofs.Common.{◌≡◌, ◌+◌, ◌<◌, Some, length, reverse, slice_get, refl, ap, ◌∙◌, arith}
use Rattle.std.proofs.lemmas.Option.{slice_get_read}
use Rattle.mc_model.specs.Runs.{expand}
use Rattle.sched_report.specs.ReportText.{report_text}
use Rattle.sched_report.specs.TaskTally.{tally_of}
use Rattle.mc_model.specs.declared.row.How.TheVariants.{Done, Stop}
use Rattle.sched_report.proofs.Bounds.{few_ended, few_rows}
use Rattle.sched_report.proofs.Numbered.{length-numbered}
use Rattle.sched_report.proofs.Texts.{tally_at, line_more}
use Rattle.sched_report.proofs.writing.report.Goals as goal

pub loop-i-init : goal.loop-i-init
unfolding report_text
loop-i-init c = rw c.new-text.ensures.items refl

pub index-requires : goal.index-requires
index-requires c =
    let long : length c.in_ok-tally.tally.tasks.items ≡ length c.args.set.now.tasks = ap length c.in_ok-tally.ensures.tasks ∙ length-numbered _ 1 c.args.set.now.tasks in
    omega (arith, long, c.in_ok-tally.tally.tasks.ok.0, c.loop-i-test.true, ap length c.as_slice-tasks.ensures.value)

pub push_task-requires : goal.push_task-requires
push_task-requires c =
    let h = reverse (expand c.args.runs.now) in
    let inside : c.loop-i.i < length c.args.set.now.tasks = omega (arith, c.loop-i-test.true, ap length c.as_slice-tasks.ensures.value) in
    let is : c.index.result.now ≡ tally_of c.args.set.now.tasks h (c.loop-i.i + 1) = tally_at c.args.set.now.tasks h c.in_ok-tally.tally.tasks.items c.loop-i.i c.index.result.now c.in_ok-tally.ensures.tasks inside c.index.ensures in
    let few = few_rows c.args.runs.now c.requires.runs in
    record { done = rw is (few_ended h (c.loop-i.i + 1) Done refl few); stopped = rw is (few_ended h (c.loop-i.i + 1) Stop refl few) }

pub loop-i-preserved : goal.loop-i-preserved
loop-i-preserved c =
    let h = reverse (expand c.args.runs.now) in
    let inside : c.loop-i.i < length c.args.set.now.tasks = omega (arith, c.loop-i-test.true, ap length c.as_slice-tasks.ensures.value) in
    let is : c.index.result.now ≡ tally_of c.args.set.now.tasks h (c.loop-i.i + 1) = tally_at c.args.set.now.tasks h c.in_ok-tally.tally.tasks.items c.loop-i.i c.index.result.now c.in_ok-tally.ensures.tasks inside c.index.ensures in
    let task = c.index-tasks-i.result in
    let found : slice_get c.args.set.now.tasks c.loop-i.i ≡ Some task =
    rw c.as_slice-tasks.ensures.value at (slice_get_read c.as_slice-tasks.result.now _ c.loop-i.i task refl c.loop-i-test.true c.index-tasks-i.is) in
    line_more c.args.set.now.tasks h c.loop-i.i task c.loop-i.text.items c.push_task.new.text.items _ _ c.index.result.now found is
    (rw c.bytes.ensures.value at c.in_ok-push_task.ensures) c.loop-i.invariant
