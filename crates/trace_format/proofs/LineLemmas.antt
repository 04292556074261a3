-- The records of a text that was written.
use Rattle.std.proofs.Common.{◌≡◌, ℕ, ◌+◌, ◌^◌, ◌≤◌, ◌<◌, Bool, true, false, ◌&&◌, nat_le, List, [], ◌∷◌, ◌++◌, Some, IsTrue, refl, arith, length, append_assoc, decimal, codes}
use Rattle.std.proofs.lemmas.Bool.Decides.{nat_tests}
use Rattle.std.specs.List.{list_any, list_all, AllByRecursion}
use Rattle.csv.specs.Machine.{next_record}
use Rattle.csv.specs.Reading.{default_config, AreRecords, Reached, strip_bom}
use Rattle.csv.specs.Writing.{default_writer, fields_text, is_blank, needs_byte, row_text}
use Rattle.csv.specs.declared.parser.State.TheVariants as st
use Rattle.csv.proofs.RoundTrip.{read-write-many}
use Rattle.numeral.specs.Numeral.{is_digit}
use Rattle.numeral.proofs.NumeralLemmas.{digits-decimal}
use Rattle.mc_task.specs.declared.task.Task.{Task}
use Rattle.mc_task.specs.NameForm.{is_name, is_name_byte}
use Rattle.mc_task.specs.TaskSet.{AreTasks, name_in, task_at}
use Rattle.mc_model.specs.Sums.{total}
use Rattle.mc_model.specs.Runs.{length_of}
use Rattle.mc_model.specs.TraceText.{how_word, kept_word, line_of, run_line, lines_from, runs_text}
use Rattle.mc_model.specs.declared.row.How.{How}
use Rattle.mc_model.specs.declared.row.How.TheVariants.{More, Done, Stop, Over}
use Rattle.mc_model.specs.declared.run.Run.{Run}
use Rattle.mc_model.specs.declared.run.Run.TheVariants.{Release, Ticks, Idles}
use Rattle.trace_format.specs.Writable.{IsWritable}
use Rattle.mc_task.proofs.NamedLemmas.{found_by_name}
use Rattle.std.proofs.lemmas.Bool.{and_parts}

-- the fields of a run's line
abbrev pub run_fields : List Task → ℕ → Run → List (List ℕ)
run_fields set tick (Release j kept) = codes "release" ∷ decimal tick ∷ [] ∷ name_in (task_at set j.task.0) ∷ decimal j.count ∷ kept_word kept ∷ []
run_fields set tick (Ticks j how n) = codes "tick" ∷ decimal tick ∷ decimal n ∷ name_in (task_at set j.task.0) ∷ decimal j.count ∷ how_word how ∷ []
run_fields set tick (Idles n) = codes "idle" ∷ decimal tick ∷ decimal n ∷ [] ∷ [] ∷ [] ∷ []

-- the fields of the lines of runs that come after n ticks
abbrev pub fields_from : List Task → ℕ → List Run → List (List (List ℕ))
fields_from set tick [] = []
fields_from set tick (r ∷ runs) = run_fields set tick r ∷ fields_from set (tick + length_of r) runs

abbrev pub header_fields : List (List ℕ)
header_fields = codes "event" ∷ codes "tick" ∷ codes "length" ∷ codes "task" ∷ codes "job" ∷ codes "how" ∷ []

-- bytes that need no quotes
abbrev IsPlain : List ℕ → Type 0
IsPlain bytes = list_any (needs_byte default_writer) bytes ≡ false

plain_all : (p : ℕ → Bool) → ((b : ℕ) → p b ≡ true → needs_byte default_writer b ≡ false) → (xs : List ℕ) → list_all p xs ≡ true → IsPlain xs
plain_all p h [] a = refl
plain_all p h (x ∷ xs) a =
    let s = and_parts (p x) (list_all p xs) a in
    let rest : IsPlain xs = plain_all p h xs s.1 in
    let first = h x s.0 in
    rw (first, rest) refl

plain_decimal : (n : ℕ) → n < 2 ^ 64 → IsPlain (decimal n)
plain_decimal n h = plain_all is_digit (λ b digit. grind (arith, nat_tests, digit)) (decimal n) (digits-decimal n h)

plain_name : (name : List ℕ) → IsTrue (is_name name) → IsPlain name
plain_name name h =
    plain_all is_name_byte (λ b fits. grind (arith, nat_tests, fits)) name ((and_parts (nat_le 1 (length name) && nat_le (length name) 32) (list_all is_name_byte name) h).1)

plain_kept : (kept : Bool) → IsPlain (kept_word kept)
plain_kept true = refl
plain_kept false = refl

plain_how : (how : How) → IsPlain (how_word how)
plain_how More = refl
plain_how Done = refl
plain_how Stop = refl
plain_how Over = refl

-- the line of six fields that need no quotes
line_is : (a b c d e f : List ℕ) → IsPlain a → IsPlain b → IsPlain c → IsPlain d → IsPlain e → IsPlain f → row_text default_writer (a ∷ b ∷ c ∷ d ∷ e ∷ f ∷ []) ≡ line_of a b c d e f
unfolding fields_text is_blank
line_is a b c d e f pa pb pc pd pe pf = rw (pa, pb, pc, pd, pe, pf) (simp append_assoc)

run_line_is : (set : List Task) (tick : ℕ) (r : Run) → AreTasks set → tick < 2 ^ 64 → length_of r < 2 ^ 64 → IsWritable set r
    → row_text default_writer (run_fields set tick r) ≡ run_line set tick r
unfolding run_line
run_line_is set tick (Release j kept) s h n w =
    let name = plain_name (name_in (task_at set j.task.0)) (found_by_name set j.task.0 s w.0).form in
    line_is (codes "release") (decimal tick) [] (name_in (task_at set j.task.0)) (decimal j.count) (kept_word kept)
    refl (plain_decimal tick h) refl name (plain_decimal j.count (omega (arith, w.1))) (plain_kept kept)
run_line_is set tick (Ticks j how n) s h m w =
    let name = plain_name (name_in (task_at set j.task.0)) (found_by_name set j.task.0 s w.0).form in
    line_is (codes "tick") (decimal tick) (decimal n) (name_in (task_at set j.task.0)) (decimal j.count) (how_word how)
    refl (plain_decimal tick h) (plain_decimal n m) name (plain_decimal j.count (omega (arith, w.1))) (plain_how how)
run_line_is set tick (Idles n) s h m w = line_is (codes "idle") (decimal tick) (decimal n) [] [] [] refl (plain_decimal tick h) (plain_decimal n m) refl refl refl

read_line : (set : List Task) (tick : ℕ) (r : Run) (tail : List ℕ) → AreTasks set → tick < 2 ^ 64 → length_of r < 2 ^ 64 → IsWritable set r
    → next_record default_config st.StartRecord [] [] (run_line set tick r ++ tail) ≡ Some (run_fields set tick r, st.StartRecord, tail)
read_line set tick (Release j kept) tail s h n w = rw (← run_line_is set tick (Release j kept) s h n w) (read-write-many _ _ _ tail)
read_line set tick (Ticks j how m) tail s h n w = rw (← run_line_is set tick (Ticks j how m) s h n w) (read-write-many _ _ _ tail)
read_line set tick (Idles m) tail s h n w = rw (← run_line_is set tick (Idles m) s h n w) (read-write-many _ _ _ tail)

lines_reached : (set : List Task) (tick : ℕ) (runs : List Run) → AreTasks set → tick + total length_of runs ≤ 100000000 → AllByRecursion (IsWritable set) runs
    → Reached default_config st.StartRecord (lines_from set tick runs) (fields_from set tick runs) st.StartRecord []
unfolding Reached
lines_reached set tick [] s h w = (refl, refl)
lines_reached set tick (r ∷ runs) s h w = (
  (run_fields set tick r, st.StartRecord, lines_from set (tick + length_of r) runs),
  read_line set tick r (lines_from set (tick + length_of r) runs) s (omega (arith, h)) (omega (arith, h)) w.0,
  refl,
  lines_reached set (tick + length_of r) runs s (omega (arith, h)) w.1,
)

-- the records of a text that was written are the fields of its runs
pub written_records : (set : List Task) (runs : List Run) → AreTasks set → total length_of runs ≤ 100000000 → AllByRecursion (IsWritable set) runs
    → AreRecords default_config st.StartRecord (strip_bom (runs_text set runs)) (header_fields ∷ fields_from set 0 runs)
unfolding Reached strip_bom next_record
written_records set runs s h w = (
  st.StartRecord,
  [],
  ((header_fields, st.StartRecord, lines_from set 0 runs), refl, refl, lines_reached set 0 runs s (omega (arith, h)) w),
  refl,
)
