-- The runs that a trace says are valid, and of its set.
use Rattle.std.proofs.Common.{◌≡◌, ℕ, ◌+◌, ◌≤◌, ◌<◌, ◌==◌, nat_le, nat_lt, Bool, true, false, not, cond, List, [], ◌∷◌, ◌++◌, Option, Some, None, option_map, Result, Ok, Err, length, refl, ap, ◌∙◌, subst, arith}
use Rattle.std.specs.List.{AllByRecursion}
use Rattle.std.proofs.lemmas.Bool.Decides.{nat_tests}
use Rattle.std.proofs.lemmas.List.{length-append}
use Rattle.std.proofs.lemmas.List.Elements.{All-nil, All-push}
use Rattle.csv.specs.Reading.{default_config, records, strip_bom}
use Rattle.csv_records.specs.Fields.{field}
use Rattle.csv_records.specs.Rows.{Means}
use Rattle.csv_records.proofs.RowLemmas.{file_keeps}
use Rattle.mc_task.specs.declared.task.Task.{Task}
use Rattle.mc_task.specs.declared.task.JobId.{JobId}
use Rattle.mc_task.specs.Refusals.{◌>>=◌, or_refuse}
use Rattle.mc_model.specs.declared.row.How.{How}
use Rattle.mc_model.specs.declared.row.How.TheVariants.{More, Done, Stop, Over}
use Rattle.mc_model.specs.declared.run.Run.{Run}
use Rattle.mc_model.specs.declared.run.Run.TheVariants as run
use Rattle.mc_model.specs.Sums.{total}
use Rattle.mc_model.specs.Runs.{length_of, IsRun, IsRunOfSet, AreRuns}
use Rattle.mc_model.proofs.Lists.{Each-append}
use Rattle.mc_model.proofs.Sums.{total-append}
use Rattle.trace_format.specs.declared.version.Version.{Version}
use Rattle.trace_format.specs.declared.event.Event.{Event}
use Rattle.trace_format.specs.declared.event.Event.TheVariants as event
use Rattle.trace_format.specs.declared.record.RecordNumbers.{RecordNumbers}
use Rattle.trace_format.specs.declared.fault.TraceCause.{TraceCause}
use Rattle.trace_format.specs.declared.fault.TraceCause.TheVariants.{Header, UnknownEvent, UnknownTask, BadNumber, WrongTick, TooMany, BadLength, TooManyTicks}
use Rattle.trace_format.specs.Events.{task_column, event_of}
use Rattle.trace_format.specs.Reading.{MayStandAfter}
use Rattle.trace_format.specs.TraceFile.{header_words, wrong_width, task_in, numbers_in, is_length, run_from, record_run, after_header, version_of, trace_file}
use Rattle.mc_task.proofs.NamedLemmas.{found}

-- ticks with a length that is taken are a valid run
ticks_are : (j : JobId) (how : How) (n : ℕ) → not (is_length (event.Tick how) n) ≡ false → IsRun (run.Ticks j how n)
ticks_are j More n h = (grind (arith, nat_tests, h), λ two. refl)
ticks_are j Done n h = let one : n ≡ 1 = grind (arith, nat_tests, h) in (omega (arith, one), λ two. absurd (omega (arith, one, two)))
ticks_are j Stop n h = let one : n ≡ 1 = grind (arith, nat_tests, h) in (omega (arith, one), λ two. absurd (omega (arith, one, two)))
ticks_are j Over n h = let one : n ≡ 1 = grind (arith, nat_tests, h) in (omega (arith, one), λ two. absurd (omega (arith, one, two)))

-- the run that a record with these numbers says is valid and of the set
said_is : (set : List Task) (v : Version) (fields : List (List ℕ)) (said : Event) (task : ℕ) (n : RecordNumbers) → task_in set v fields said ≡ Some task
    → not (is_length said n.length) ≡ false
    → IsRun (run_from said task n) × IsRunOfSet set (run_from said task n) × (length_of (run_from said task n) ≤ n.length)
said_is set v fields (event.Release kept) task n named length = (tt, found (field fields (task_column v)) set task named, omega arith)
said_is set v fields (event.Tick how) task n named length =
    (ticks_are (record { task = record { 0 = task }; count = n.count }) how n.length length, found (field fields (task_column v)) set task named, omega arith)
said_is set v fields event.Idle task n named length = (grind (arith, nat_tests, length), tt, omega arith)

-- if a step that refuses an absent value gives a result, the value is there, and what follows gives that
-- result
from_some : {A : Type 0} (x : Option A) (cause : TraceCause) (more : A → Result Run TraceCause) (q : Run) → (or_refuse cause x >>= more) ≡ Ok q
    → (y : A) × (x ≡ Some y) × (more y ≡ Ok q)
from_some None cause more q h = absurd (cc)
from_some (Some y) cause more q h = (y, refl, h)

not_refused : (refuses : Bool) (cause : TraceCause) (more : Result Run TraceCause) (q : Run) → cond refuses (Err cause) more ≡ Ok q → (refuses ≡ false) × (more ≡ Ok q)
not_refused true cause more q h = absurd (cc)
not_refused false cause more q h = (refl, h)

-- the run of a record may stand after the runs before it
pub of_record : (set : List Task) (v : Version) (before : List Run) (fields : List (List ℕ)) (q : Run) → record_run set v before fields ≡ Ok q
    → (length before < 2000000) × MayStandAfter set (total length_of before) q
unfolding record_run
of_record set v before fields q h =
    let few = not_refused (nat_le 2000000 (length before)) TooMany _ q h in
    let wide = not_refused (not (length fields == length (header_words v))) (wrong_width v) _ q few.1 in
    let said = from_some (event_of v fields) UnknownEvent _ q wide.1 in
    let task = from_some (task_in set v fields said.0) UnknownTask _ q said.2 in
    let n = from_some (numbers_in v fields said.0) BadNumber _ q task.2 in
    let tick = not_refused (not (n.0.tick == total length_of before)) WrongTick _ q n.2 in
    let taken = not_refused (not (is_length said.0 n.0.length)) BadLength _ q tick.1 in
    let short = not_refused (nat_lt 100000000 (total length_of before + n.0.length)) TooManyTicks _ q taken.1 in
    let same : run_from said.0 task.0 n.0 ≡ q = cc in
    let is = said_is set v fields said.0 task.0 n.0 task.1 taken.0 in
    let fits : MayStandAfter set (total length_of before) (run_from said.0 task.0 n.0) =
    record { is_run = is.0; task = is.1; short = grind (arith, nat_tests, short.0, is.2) } in
    (grind (arith, nat_tests, few.0), subst (MayStandAfter set (total length_of before)) same fits)

-- the runs are valid, and of the set
abbrev pub AreOf : List Task → List Run → Type 0
AreOf set runs = AreRuns runs × AllByRecursion (IsRunOfSet set) runs

-- valid runs of the set, with one more that may come next
pub one_more : (set : List Task) (before : List Run) (r : Run) → AreOf set before → (length before < 2000000) × MayStandAfter set (total length_of before) r
    → AreOf set (before ++ r ∷ [])
one_more set before r a f = (
  record {
    each = All-push IsRun before r a.0.each f.1.is_run;
    few = let few = f.0 in omega (arith, few, length-append before (r ∷ []));
    short = let short = f.1.short in omega (arith, short, total-append length_of before (r ∷ []));
  },
  Each-append (IsRunOfSet set) before (r ∷ []) a.1 (f.1.task, tt),
)

-- the runs after a header of either version are valid and of the set
of_row : (set : List Task) (first : List (List ℕ)) (means : Means Run TraceCause) → after_header set first ≡ Some means
    → (before : List Run) (fields : List (List ℕ)) (r : Run) → AreOf set before → means before fields ≡ Ok r → AreOf set (before ++ r ∷ [])
of_row set first means is before fields r a read = go (version_of first) is
  where
    go : (v : Option Version) → option_map (record_run set) v ≡ Some means → AreOf set (before ++ r ∷ [])
    go None h = cc
    go (Some v) h =
        let same : record_run set v ≡ means = cc in
        one_more set before r a (of_record set v before fields r (ap (λ (m : Means Run TraceCause). m before fields) same ∙ read))

of_trace : (set : List Task) (text : List ℕ) (runs : List Run) → trace_file set text ≡ Ok runs → AreOf set runs
of_trace set text runs h =
    let none : AreOf set [] = (record { each = All-nil IsRun; few = omega arith; short = omega arith }, tt) in
    file_keeps (AreOf set) (after_header set) Header none (of_row set) (records default_config (strip_bom text)) runs h

-- the runs of a trace that is read are valid
pub valid_runs : (set : List Task) (text : List ℕ) (runs : List Run) → trace_file set text ≡ Ok runs → AreRuns runs
valid_runs set text runs h = (of_trace set text runs h).0

-- the runs of a trace that is read are of the set
pub runs_of_set : (set : List Task) (text : List ℕ) (runs : List Run) → trace_file set text ≡ Ok runs → AllByRecursion (IsRunOfSet set) runs
runs_of_set set text runs h = (of_trace set text runs h).1
