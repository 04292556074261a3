use Rattle.std.proofs.Common.{◌≡◌, All, subst}
use Rattle.std.proofs.lemmas.List.{append-nil, drop_all, take_all}
use Rattle.std.proofs.lemmas.List.Elements.{All-more}
use Rattle.mc_model.specs.TraceText.{runs_text}
use Rattle.trace_format.specs.Writable.{IsWritable}
use Rattle.trace_format.proofs.TickLemmas.{ticks-more, ticks-fit, lines-more}
use Rattle.trace_format.proofs.WrittenLemmas.{read_back}
use Rattle.trace_format.proofs.write.write_trace.Goals as goal

pub tick_after-tick-requires : goal.tick_after-tick-requires
tick_after-tick-requires c = ticks-fit c.args.runs.now c.loop-run.run-index c.loop-run.tick _ c.loop-run-test.true c.requires.runs c.loop-run.invariant.tick

pub loop-run-preserved : goal.loop-run-preserved
loop-run-preserved c =
    let inv = c.loop-run.invariant in
    let inside = c.loop-run-test.true in
    record {
      tick = ticks-more c.args.runs.now c.loop-run.run-index c.loop-run.tick _ _ inside inv.tick c.tick_after-tick.ensures;
      text = lines-more c.args.set.now.tasks c.args.runs.now c.loop-run.run-index c.loop-run.tick _ _ c.loop-run.out.items _ _ inside c.tick_after-tick.ensures
          c.in_ok-push_run.ensures.line inv.text;
      writable = All-more (IsWritable c.args.set.now.tasks) c.args.runs.now c.loop-run.run-index _ inside inv.writable c.push_run.ensures.writable;
    }

pub returns-clause-reads_back : goal.returns-clause-reads_back
returns-clause-reads_back c =
    let inv = c.loop-run.invariant in
    let writable = subst (λ runs. All (IsWritable c.args.set.now.tasks) runs) (take_all c.loop-run.run-index c.args.runs.now c.loop-run-test.false) inv.writable in
    let text : c.loop-run.out.items ≡ runs_text c.args.set.now.tasks c.args.runs.now = rw (drop_all c.loop-run.run-index c.args.runs.now c.loop-run-test.false, append-nil) at inv.text in
    read_back c.args.set.now.tasks c.args.runs.now c.loop-run.out.items c.len-is_set.ensures.set c.requires.runs writable text
