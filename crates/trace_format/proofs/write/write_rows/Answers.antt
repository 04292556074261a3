use Rattle.std.proofs.Common.{◌≡◌, ◌++◌, [], All, ap, arith}
use Rattle.std.proofs.lemmas.List.{append-nil}
use Rattle.std.proofs.lemmas.List.Elements.{All-nil, All-cons}
use Rattle.mc_model.specs.Runs.{IsRunOfSet, pack}
use Rattle.mc_model.specs.TraceText.{lines_from, trace_text}
use Rattle.mc_model.proofs.Packing.{pack-valid}
use Rattle.trace_format.specs.Writable.{IsWritable}
use Rattle.trace_format.proofs.FirstRun.{first_of, packed_of_set, line_more, ticks_left, fewer_left}
use Rattle.trace_format.proofs.WrittenLemmas.{read_back}
use Rattle.trace_format.proofs.write.write_rows.Goals as goal

pub loop-run-init : goal.loop-run-init
loop-run-init c = record {
  text = ap (λ xs. xs ++ lines_from c.args.set.now.tasks 0 (pack c.args.rows.now)) c.in_ok-out.ensures;
  short = omega (arith, c.requires.few);
  tasks = packed_of_set c.args.set.now.tasks c.args.rows.now c.requires.tasks;
  writable = λ all. all;
}

pub loop-run-smaller : goal.loop-run-smaller
loop-run-smaller c = fewer_left c.in-Some.run' c.in-Some.after.now c.loop-run.rest.now c.in-Some.ensures

pub push_run-requires : goal.push_run-requires
push_run-requires c =
    (first_of (IsRunOfSet c.args.set.now.tasks) c.in-Some.run' c.in-Some.after.now c.loop-run.rest.now c.in-Some.ensures c.loop-run.invariant.tasks).0

pub tick_after-tick-requires : goal.tick_after-tick-requires
tick_after-tick-requires c =
    let left = ticks_left c.in-Some.run' c.in-Some.after.now c.loop-run.rest.now c.in-Some.ensures in
    let short = c.loop-run.invariant.short in
    omega (arith, left, short)

pub loop-run-preserved : goal.loop-run-preserved
loop-run-preserved c =
    let tasks = c.args.set.now.tasks in
    let run = c.in-Some.run' in
    let after = c.in-Some.after.now in
    let rest = c.loop-run.rest.now in
    let inv = c.loop-run.invariant in
    let left = ticks_left run after rest c.in-Some.ensures in
    let short = inv.short in
    let next = c.tick_after-tick.ensures in
    record {
      text = line_more tasks c.loop-run.tick c.tick_after-tick.result run after rest c.loop-run.out.items c.push_run.new.out.items (trace_text tasks c.args.rows.now)
          c.in-Some.ensures next c.in_ok-push_run.ensures.line inv.text;
      short = omega (arith, left, short, next);
      tasks = (first_of (IsRunOfSet tasks) run after rest c.in-Some.ensures inv.tasks).1;
      writable = λ others. inv.writable (rw c.in-Some.ensures (All-cons (IsWritable tasks) run (pack after) c.push_run.ensures.writable others));
    }

pub returns-clause-reads_back : goal.returns-clause-reads_back
returns-clause-reads_back c =
    let tasks = c.args.set.now.tasks in
    let inv = c.loop-run.invariant in
    let none : c.loop-run.rest.now ≡ [] = c.in_default.ensures in
    let writable : All (IsWritable tasks) (pack c.args.rows.now) = inv.writable (rw none (All-nil (IsWritable tasks))) in
    let text : c.loop-run.out.items ≡ trace_text tasks c.args.rows.now = rw (none, append-nil) at inv.text in
    read_back tasks (pack c.args.rows.now) c.loop-run.out.items c.len-is_set.ensures.set (pack-valid c.args.rows.now c.requires.few) writable text
