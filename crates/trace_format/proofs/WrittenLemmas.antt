-- The records of a text that was written say its runs.
use Rattle.std.proofs.Common.{◌≡◌, ℕ, ◌+◌, ◌≤◌, ◌<◌, Bool, true, false, nat_le, nat_lt, List, [], ◌∷◌, ◌++◌, Some, Ok, All, refl, sym, ap, ◌∙◌, arith, length, append_assoc}
use Rattle.std.proofs.lemmas.Bool.{lt-leb}
use Rattle.std.proofs.lemmas.Bool.Decides.{nat_tests}
use Rattle.std.proofs.lemmas.List.{append-nil, length-append}
use Rattle.std.proofs.lemmas.List.Elements.{recursion_from_All}
use Rattle.std.specs.List.{AllByRecursion}
use Rattle.csv.specs.Reading.{default_config, records, strip_bom}
use Rattle.csv.specs.Records.{field_at}
use Rattle.numeral.proofs.NumeralLemmas.{number-decimal}
use Rattle.mc_task.specs.declared.task.Task.{Task}
use Rattle.mc_task.specs.declared.task.JobId.{JobId}
use Rattle.mc_task.specs.TaskSet.{AreTasks}
use Rattle.mc_model.specs.Sums.{total}
use Rattle.mc_model.specs.Runs.{length_of, IsRun, AreRuns}
use Rattle.mc_model.specs.TraceText.{runs_text, kept_word, how_word}
use Rattle.mc_model.specs.declared.row.How.{How}
use Rattle.mc_model.specs.declared.row.How.TheVariants.{More, Done, Stop, Over}
use Rattle.mc_model.specs.declared.run.Run.{Run}
use Rattle.mc_model.specs.declared.run.Run.TheVariants.{Release, Ticks, Idles}
use Rattle.trace_format.specs.declared.version.Version.TheVariants.{Two}
use Rattle.trace_format.specs.declared.event.Event.TheVariants as event
use Rattle.trace_format.specs.Events.{event_of, release_event, tick_event, idle_event}
use Rattle.trace_format.specs.TraceFile.{is_length, record_run, after_header, trace_file}
use Rattle.trace_format.specs.Writable.{IsWritable}
use Rattle.trace_format.specs.declared.fault.TraceCause.TheVariants.{Header}
use Rattle.csv_records.specs.Rows.{rows_from, rows_of}
use Rattle.mc_model.proofs.Booleans.{eqb-refl}
use Rattle.mc_model.proofs.Runs.{alone}
use Rattle.mc_task.proofs.NamedLemmas.{found_by_name}
use Rattle.csv_records.proofs.RecordLemmas.{same_records, records_are}
use Rattle.trace_format.proofs.LineLemmas.{run_fields, fields_from, header_fields, written_records}
use Rattle.trace_format.proofs.TickLemmas.{total-one}

few_ticks : (due n : ℕ) → due + n ≤ 100000000 → nat_lt 100000000 (due + n) ≡ false
few_ticks due n h = grind (arith, nat_tests)

-- a run has a length that the reader takes
some_ticks : (n : ℕ) → 1 ≤ n → nat_le 1 n ≡ true
some_ticks n h = grind (arith, nat_tests)

ticks_taken : (j : JobId) (how : How) (n : ℕ) → IsRun (Ticks j how n) → is_length (event.Tick how) n ≡ true
ticks_taken j More n v = some_ticks n v.0
ticks_taken j Done n v = let one = alone j Done n v (λ e. cc) in grind (arith, nat_tests, one)
ticks_taken j Stop n v = let one = alone j Stop n v (λ e. cc) in grind (arith, nat_tests, one)
ticks_taken j Over n v = let one = alone j Over n v (λ e. cc) in grind (arith, nat_tests, one)

-- the words of a release are read as the release that they stand for
kept_read : (kept : Bool) → release_event (kept_word kept) ≡ Some (event.Release kept)
unfolding release_event
kept_read true = refl
kept_read false = refl

how_read : (how : How) → tick_event (how_word how) ≡ Some (event.Tick how)
unfolding tick_event
how_read More = refl
how_read Done = refl
how_read Stop = refl
how_read Over = refl

-- a run is read from the fields of its line
record_back : (set : List Task) (before : List Run) (r : Run) → AreTasks set → length before < 2000000 → total length_of before + length_of r ≤ 100000000
    → IsRun r → IsWritable set r → record_run set Two before (run_fields set (total length_of before) r) ≡ Ok r
unfolding record_run field_at event_of idle_event
record_back set before (Release j kept) s a h v w =
    let due = total length_of before in
    let tick = number-decimal due (omega (arith, h)) in
    let task = (found_by_name set j.task.0 s w.0).number in
    rw (lt-leb 2000000 (length before) a, kept_read kept, task, tick, number-decimal j.count w.1, eqb-refl due, few_ticks due 0 h) refl
record_back set before (Ticks j how n) s a h v w =
    let due = total length_of before in
    let tick = number-decimal due (omega (arith, h)) in
    let task = (found_by_name set j.task.0 s w.0).number in
    let ticks = number-decimal n (omega (arith, h)) in
    rw (lt-leb 2000000 (length before) a, how_read how, task, tick, ticks, number-decimal j.count w.1, eqb-refl due, ticks_taken j how n v, few_ticks due n h) refl
record_back set before (Idles n) s a h v w =
    let due = total length_of before in
    let tick = number-decimal due (omega (arith, h)) in
    rw (lt-leb 2000000 (length before) a, tick, number-decimal n (omega (arith, h)), eqb-refl due, some_ticks n v, few_ticks due n h) refl

runs_back : (set : List Task) (before runs : List Run) → AreTasks set → length before + length runs ≤ 2000000
    → total length_of before + total length_of runs ≤ 100000000 → AllByRecursion IsRun runs → AllByRecursion (IsWritable set) runs
    → rows_from (record_run set Two) (fields_from set (total length_of before) runs) before ≡ Ok (before ++ runs)
runs_back set before [] s a h v w = ap Ok (sym (append-nil before))
runs_back set before (r ∷ runs) s a h v w =
    let more = total-one before r in
    let longer : length (before ++ r ∷ []) ≡ length before + 1 = length-append before (r ∷ []) in
    let rest = runs_back set (before ++ r ∷ []) runs s (omega (arith, longer, a)) (omega (arith, more, h)) v.1 w.1 in
    rw (record_back set before r s (omega (arith, a)) (omega (arith, h)) v.0 w.0) (rw (more, append_assoc) at rest)

-- a text that was written is read as its runs
pub read_back : (set : List Task) (runs : List Run) (text : List ℕ) → AreTasks set → AreRuns runs → All (IsWritable set) runs → text ≡ runs_text set runs
    → trace_file set text ≡ Ok runs
unfolding field_at
read_back set runs text s v writable is =
    let w : AllByRecursion (IsWritable set) runs = recursion_from_All (IsWritable set) runs writable in
    let written = written_records set runs s v.short w in
    let same = same_records _ _ (records default_config (strip_bom (runs_text set runs))) (header_fields ∷ fields_from set 0 runs) (records_are _) written in
    let back = runs_back set [] runs s (omega (arith, v.few)) (omega (arith, v.short)) (recursion_from_All IsRun runs v.each) w in
    ap (trace_file set) is ∙ (ap (rows_of (after_header set) Header) same ∙ back)
