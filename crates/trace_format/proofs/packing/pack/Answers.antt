use Rattle.std.proofs.Common.{rules, ◌≡◌, ◌++◌, ◌∷◌, [], sym, ap, ◌∙◌, arith}
use Rattle.std.proofs.lemmas.List.{append-nil}
use Rattle.mc_task.proofs.TaskLemmas.{each_of_all}
use Rattle.mc_model.specs.Runs.{IsRun, pack}
use Rattle.mc_model.proofs.Packing.{pack-expand, expand-pack, pack-valid}
use Rattle.trace_format.proofs.FirstRun.{one_run_more, fewer_left, pack_packed, packed_of_set}
use Rattle.trace_format.proofs.packing.pack.Goals as goal

pub loop-run-smaller : goal.loop-run-smaller
loop-run-smaller c = fewer_left c.in-Some.run' c.in-Some.after.now c.loop-run.rest.now c.in-Some.ensures

pub loop-run-preserved : goal.loop-run-preserved
loop-run-preserved c =
    let more : c.push.new.self.items ≡ c.loop-run.runs.items ++ c.in-Some.run' ∷ [] = search rules in
    let fewer = fewer_left c.in-Some.run' c.in-Some.after.now c.loop-run.rest.now c.in-Some.ensures in
    let few = c.loop-run.invariant.few in
    record {
      pack = one_run_more c.loop-run.runs.items c.push.new.self.items c.in-Some.run' c.in-Some.after.now c.loop-run.rest.now (pack c.args.rows.now)
          c.in-Some.ensures more c.loop-run.invariant.pack;
      few = omega (arith, fewer, few);
    }

pub returns-clause-pack : goal.returns-clause-pack
returns-clause-pack c = rw (c.in_default.ensures, append-nil) at c.loop-run.invariant.pack

pub returns-clause-expands : goal.returns-clause-expands
returns-clause-expands c = rw (returns-clause-pack c) (expand-pack c.args.rows.now)

pub returns-clause-packed : goal.returns-clause-packed
returns-clause-packed c = rw (returns-clause-pack c) (pack_packed c.args.rows.now)

pub returns-clause-only : goal.returns-clause-only
returns-clause-only c others valid packed same = sym (pack-expand others (each_of_all IsRun others valid.each) packed) ∙ (ap pack same ∙ sym (returns-clause-pack c))

pub returns-clause-valid : goal.returns-clause-valid
returns-clause-valid c = rw (returns-clause-pack c) (pack-valid c.args.rows.now c.requires.few)

pub returns-clause-tasks : goal.returns-clause-tasks
returns-clause-tasks c set of_set = rw (returns-clause-pack c) (packed_of_set set c.args.rows.now of_set)
