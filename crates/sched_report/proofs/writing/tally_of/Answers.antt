use Rattle.std.proofs.Common.{◌≡◌, ◌+◌, length, reverse, take, vec_len, ap, subst, ◌∙◌, arith}
use Rattle.std.proofs.lemmas.List.{take_all}
use Rattle.std.proofs.lemmas.List.Elements.{All-get_or}
use Rattle.mc_model.specs.Runs.{expand, IsRun}
use Rattle.mc_model.proofs.Runs.{rows_more}
use Rattle.sched_report.specs.Tally.{Tallies}
use Rattle.sched_report.proofs.Bounds.{has_room, among, few_read, short_run}
use Rattle.sched_report.proofs.Numbered.{length-numbered}
use Rattle.sched_report.proofs.Texts.{legal_first, run_inside}
use Rattle.sched_report.proofs.writing.tally_of.Goals as goal

pub count-requires-clause-is_run : goal.count-requires-clause-is_run
count-requires-clause-is_run c = All-get_or IsRun c.args.runs.now c.loop-run.run-index _ c.loop-run-test.true c.requires.runs.each

pub count-requires-clause-short : goal.count-requires-clause-short
count-requires-clause-short c = short_run c.args.runs.now c.loop-run.run-index _ c.loop-run-test.true c.requires.runs

pub count-requires-clause-task : goal.count-requires-clause-task
count-requires-clause-task c =
    let long : length c.loop-run.tally.tasks.items ≡ length c.args.set.now.tasks = ap length c.loop-run.invariant.tasks ∙ length-numbered _ 1 c.args.set.now.tasks in
    among c.args.set.now.tasks (vec_len c.loop-run.tally.tasks) _ (omega (arith, long, c.loop-run.tally.tasks.ok.0))
    (run_inside c.args.set.now.tasks c.requires.trace.rule c.args.runs.now c.loop-run.run-index _ c.loop-run-test.true (All-get_or IsRun c.args.runs.now c.loop-run.run-index _ c.loop-run-test.true c.requires.runs.each) c.requires.trace.legal)

pub count-requires-clause-room : goal.count-requires-clause-room
count-requires-clause-room c = has_room c.args.set.now.tasks _ c.loop-run.tally c.loop-run.invariant (few_read c.args.runs.now c.loop-run.run-index c.requires.runs)

pub loop-run-preserved : goal.loop-run-preserved
loop-run-preserved c =
    let next = rows_more c.args.runs.now c.loop-run.run-index _ c.loop-run-test.true in
    let legal = legal_first c.args.set.now.tasks c.requires.trace.rule c.args.runs.now (c.loop-run.run-index + 1) c.requires.trace.legal in
    rw next (c.in_ok-count.ensures c.args.set.now.tasks c.requires.trace.rule (reverse (expand (take c.loop-run.run-index c.args.runs.now))) (rw next at legal) c.loop-run.invariant)

pub returns : goal.returns
returns c = subst (λ l. Tallies c.args.set.now.tasks (reverse (expand l)) c.loop-run.tally) (take_all c.loop-run.run-index c.args.runs.now c.loop-run-test.false) c.loop-run.invariant
