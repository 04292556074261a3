-- The text of a legal trace with few rows is a trace file of that trace.
use Rattle.std.proofs.Common.{◌≡◌, ℕ, ◌≤◌, ◌<◌, ◌^◌, List, All, Ok, length, get_or, reverse, refl, sym, ap, ◌∙◌, subst, arith}
use Rattle.std.proofs.lemmas.List.{length-reverse, reverse-reverse}
use Rattle.std.proofs.lemmas.List.Elements.{All-from_recursion}
use Rattle.mc_task.specs.declared.task.Rule.{Rule}
use Rattle.mc_task.specs.declared.task.Task.{Task}
use Rattle.mc_task.specs.TaskSet.{AreTasks}
use Rattle.mc_model.specs.declared.row.Row.{Row}
use Rattle.mc_model.specs.declared.run.Run.{Run}
use Rattle.mc_model.specs.declared.run.Run.TheVariants as run
use Rattle.mc_model.specs.Legal.{Legal, IsOfSet}
use Rattle.mc_model.specs.Rows.{ticks}
use Rattle.mc_model.specs.Runs.{row_of, expand, pack, AreRuns}
use Rattle.mc_model.specs.TraceText.{trace_text}
use Rattle.mc_model.proofs.Lists.{Each-reverse}
use Rattle.mc_model.proofs.Packing.{expand-pack, pack-runs, pack-valid, repack-valid}
use Rattle.mc_model.proofs.Runs.{length-expand-le}
use Rattle.mc_model.proofs.Traces.{rows_of_legal}
use Rattle.trace_format.specs.TraceFile.{trace_file}
use Rattle.trace_format.specs.Writable.{IsWritable}
use Rattle.trace_format.proofs.PackLemmas.{of_rows}
use Rattle.trace_format.proofs.RunsOfSet.{valid_runs}
use Rattle.trace_format.proofs.WrittenLemmas.{read_back}
use Rattle.run_commands.proofs.TraceBytes.{HasCountBelow, counts-below, trace_le}
use Rattle.promises.specs.Headline.{IsTimely, trace_of, SaysTrace, SaysTimely}

-- a run can be written whose row is of the set and has a count below 2^32
writable_run : (set : List Task) (r : Run) → IsOfSet set (row_of r) → HasCountBelow (2 ^ 32) (row_of r) → IsWritable set r
writable_run set (run.Release j kept) of count = (of, count)
writable_run set (run.Ticks j how n) of count = (of, count)
writable_run set (run.Idles n) of count = tt

-- the packed runs of a legal trace can be written
writable_runs : (set : List Task) (rule : Rule) (h : List Row) → Legal set rule h → length h < 2 ^ 32 → All (IsWritable set) (pack (reverse h))
writable_runs set rule h legal few =
    let rows : List Row = reverse h in
    let below = All-from_recursion (HasCountBelow (2 ^ 32)) rows (Each-reverse (HasCountBelow (2 ^ 32)) h (counts-below set rule (2 ^ 32) h legal few)) in
    let counts = of_rows (HasCountBelow (2 ^ 32)) (pack rows) rows (pack-runs rows) (expand-pack rows) below in
    let of = of_rows (IsOfSet set) (pack rows) rows (pack-runs rows) (expand-pack rows) (rows_of_legal set rule h legal) in
    λ k d lt. writable_run set (get_or (pack rows) k d) (of k d lt) (counts k d lt)

-- the text of a legal trace is read as its packed runs, where these are valid
text_is_read : (set : List Task) (rule : Rule) (h : List Row) → AreTasks set → Legal set rule h → length h < 2 ^ 32 → AreRuns (pack (reverse h))
    → trace_file set (trace_text set (reverse h)) ≡ Ok (pack (reverse h))
text_is_read set rule h is legal few valid =
    read_back set (pack (reverse h)) (trace_text set (reverse h)) is valid (writable_runs set rule h legal few) refl

-- a trace is that of its packed runs
trace_of-pack : (h : List Row) → trace_of (pack (reverse h)) ≡ h
trace_of-pack h = ap reverse (expand-pack (reverse h)) ∙ reverse-reverse h

-- the text of a trace of at most 2,000,000 rows is a trace file, and says the trace's packed runs
text_says_trace : (set : List Task) (rule : Rule) (h : List Row) → AreTasks set → Legal set rule h → length h ≤ 2000000 → SaysTrace (trace_text set (reverse h)) set (pack (reverse h))
text_says_trace set rule h is legal few =
    let bytes = trace_le set rule h is legal (omega (arith, few)) in
    let valid = pack-valid (reverse h) (omega (arith, few, length-reverse h)) in
    (omega (arith, few, bytes), text_is_read set rule h is legal (omega (arith, few)) valid)

-- where the trace has n ticks and keeps the deadlines, its text says so
pub text_says_timely : (n : ℕ) (set : List Task) (rule : Rule) (h : List Row) → AreTasks set → length h ≤ 2000000 → ticks h ≡ n → IsTimely set rule h
    → SaysTimely n (trace_text set (reverse h)) set rule
text_says_timely n set rule h is few has timely =
    (pack (reverse h), text_says_trace set rule h is timely.0 few, ap ticks (trace_of-pack h) ∙ has, subst (λ rows. IsTimely set rule rows) (sym (trace_of-pack h)) timely)

-- the text of a legal trace that was read from a file is read as runs with the same rows
pub rewritten_text_is_read : (set : List Task) (rule : Rule) (bytes : List ℕ) (runs : List Run) → AreTasks set → trace_file set bytes ≡ Ok runs → Legal set rule (trace_of runs)
    → (trace_file set (trace_text set (reverse (trace_of runs))) ≡ Ok (pack (reverse (trace_of runs)))) × (expand (pack (reverse (trace_of runs))) ≡ expand runs)
rewritten_text_is_read set rule bytes runs is read legal =
    let valid = valid_runs set bytes runs read in
    let few = valid.few in
    let short = valid.short in
    let rows : length (trace_of runs) ≡ length (expand runs) = length-reverse (expand runs) in
    let packed_valid = subst (λ rows. AreRuns (pack rows)) (sym (reverse-reverse (expand runs))) (repack-valid runs valid) in (
      text_is_read set rule (trace_of runs) is legal (omega (arith, few, short, rows, length-expand-le runs)) packed_valid,
      expand-pack (reverse (trace_of runs)) ∙ reverse-reverse (expand runs),
    )
