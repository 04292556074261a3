use Rattle.std.proofs.Common.{sym, ap, ◌∙◌}
use Rattle.mc_task.proofs.TaskLemmas.{each_of_all}
use Rattle.mc_model.specs.Runs.{IsRun, pack}
use Rattle.mc_model.specs.Legal.{IsOfSet}
use Rattle.mc_model.proofs.Packing.{pack-expand, repack-valid, length-pack-expand}
use Rattle.mc_model.proofs.Runs.{next_rows}
use Rattle.trace_format.proofs.PackLemmas.{short_runs, all_runs, of_runs}
use Rattle.trace_format.proofs.packing.merge.Goals as goal

pub add-requires-clause-short : goal.add-requires-clause-short
add-requires-clause-short c = short_runs c.loop-run.merged.items c.args.runs.now c.loop-run.run-index _ c.loop-run-test.true c.requires c.loop-run.invariant.rows

pub loop-run-preserved : goal.loop-run-preserved
loop-run-preserved c = record {
  rows = next_rows _ _ c.args.runs.now c.loop-run.run-index _ c.loop-run-test.true c.in_ok-add.ensures.rows c.loop-run.invariant.rows;
  packed = c.in_ok-add.ensures.packed;
}

pub returns-clause-pack : goal.returns-clause-pack
returns-clause-pack c =
    let p = c.loop-run.invariant.packed in
    sym (pack-expand _ p.each p.packed) ∙ ap pack (all_runs c.loop-run.merged.items c.args.runs.now _ c.loop-run-test.false c.loop-run.invariant.rows)

pub returns-clause-valid : goal.returns-clause-valid
returns-clause-valid c = rw (returns-clause-pack c) (repack-valid c.args.runs.now c.requires)

pub returns-clause-shorter : goal.returns-clause-shorter
returns-clause-shorter c = rw (returns-clause-pack c) (length-pack-expand c.args.runs.now (each_of_all IsRun c.args.runs.now c.requires.each))

pub returns-clause-tasks : goal.returns-clause-tasks
returns-clause-tasks c set a =
    let inv = c.loop-run.invariant in
    of_runs (IsOfSet set) _ c.args.runs.now inv.packed.each (all_runs c.loop-run.merged.items c.args.runs.now _ c.loop-run-test.false inv.rows) a
