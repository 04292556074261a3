-- How many bytes the text of a trace has: the line of a release at most 66, that of a run of n ticks at most 61 * n. And the
-- counts of the jobs of a legal trace, whose newest row stands first.
use Rattle.std.proofs.Common.{◌≡◌, ℕ, zero, suc, ◌+◌, ◌*◌, ◌-◌, ◌%◌, ◌^◌, ◌<◌, ◌≤◌, ◌==◌, Bool, true, false, ◌&&◌, nat_le, List, [], ◌∷◌, None, if◌then◌else◌, codes, decimal, length, slice_get, sym, ap, ◌∙◌, arith, leb-true, inl, inr, cond, reverse, subst}
use Rattle.std.specs.List.{AllByRecursion, list_all}
use Rattle.std.proofs.lemmas.Bool.{and_parts, cases_lt}
use Rattle.std.proofs.lemmas.Fmt.{decimal_by_steps, length-decimal-le}
use Rattle.std.proofs.lemmas.List.{length-append, length-replicate, length-reverse}
use Rattle.std.proofs.lemmas.List.Elements.{All-from_recursion}
use Rattle.mc_task.specs.NameForm.{is_name, is_name_byte}
use Rattle.mc_task.specs.declared.task.Task.{Task}
use Rattle.mc_task.specs.TaskSet.{IsTask, task_at, name_in, AreTasks}
use Rattle.mc_task.proofs.TaskLemmas.{each_of_all}
use Rattle.mc_model.specs.declared.row.How.{How}
use Rattle.mc_model.specs.declared.row.How.TheVariants.{More}
use Rattle.mc_model.specs.declared.row.Row.{Row}
use Rattle.mc_model.specs.declared.row.Row.TheVariants.{Release, Tick, Idle}
use Rattle.mc_model.specs.declared.run.Run.{Run}
use Rattle.mc_model.specs.declared.run.Run.TheVariants as run
use Rattle.mc_model.specs.Sums.{total}
use Rattle.mc_model.specs.Rows.{ticks, releases, used}
use Rattle.mc_model.specs.Runs.{row_of, size, expand, length_of, IsRun, pack}
use Rattle.mc_model.specs.TraceText.{how_word, kept_word, line_of, run_line, lines_from, trace_text}
use Rattle.mc_model.proofs.Packing.{expand-pack, pack-runs}
use Rattle.mc_model.proofs.Runs.{ticks-expand}
use Rattle.mc_model.proofs.Ticks.{ticks-le, releases-le, ticks-reverse}
use Rattle.trace_format.proofs.PackLemmas.{of_rows}
use Rattle.mc_task.specs.declared.task.Rule.{Rule}
use Rattle.mc_task.specs.declared.task.JobId.{JobId}
use Rattle.mc_model.specs.Legal.{Legal}
use Rattle.mc_model.proofs.Bridge.{bridge}
use Rattle.mc_model.proofs.Counts.{counted}
use Rattle.mc_model.proofs.Jobs.{same_job-refl}
use Rattle.mc_model.proofs.Lists.{Each-reverse}
use Rattle.mc_model.proofs.Steps.{release_fits}
use Rattle.replies.specs.Reply.{Reply}
use Rattle.run_commands.specs.Run.{traced}

-- the count of the row's job is below m
abbrev pub HasCountBelow : ℕ → Row → Type 0
HasCountBelow m (Release j kept) = j.count < m
HasCountBelow m (Tick j how) = j.count < m
HasCountBelow m Idle = Unit {0}

-- a number below 10,000,000 has at most 7 digits
seven_digits : (n : ℕ) → n < 10000000 → length (decimal n) ≤ 7
seven_digits n small = length-decimal-le 7 n (omega arith) (omega arith) (omega arith)

-- a number above 0 has at most as many digits as it says
digits_le : (n : ℕ) → n < 2 ^ 64 → 1 ≤ n → length (decimal n) ≤ n
digits_le =
    decimal_by_steps (λ m ds. 1 ≤ m → length ds ≤ m)
    (λ m l some. omega arith)
    (λ m ds l h some. let before = h (omega arith) in omega (arith, before, length-append ds ((48 + m % 10) ∷ [])))

-- a name has at most 32 bytes
short_name : (name : List ℕ) → is_name name ≡ true → length name ≤ 32
short_name name h =
    let few = and_parts (nat_le 1 (length name) && nat_le (length name) 32) (list_all is_name_byte name) h in
    let most = (and_parts (nat_le 1 (length name)) (nat_le (length name) 32) few.0).1 in
    leb-true _ _ most

-- the name of each task has at most 32 bytes, by the task's index in the list
name_at_place : (ts : List Task) (i : ℕ) → AllByRecursion IsTask ts → length (name_in (slice_get ts i)) ≤ 32
name_at_place [] i is = omega arith
name_at_place (t ∷ ts) zero is = short_name t.name is.0.name
name_at_place (t ∷ ts) (suc i) is = name_at_place ts i is.1

-- the name of each task has at most 32 bytes, by the task's number
name_of_task : (set : List Task) (k : ℕ) → AllByRecursion IsTask set → length (name_in (task_at set k)) ≤ 32
name_of_task set k is = elim (k == 0) as (λ b. length (name_in (if b then None else slice_get set (k - 1))) ≤ 32) [ true ↦ omega arith | false ↦ name_at_place set (k - 1) is ]

-- a line has its fields, five commas and a line feed
line_length : (event tick len task job how : List ℕ) → length (line_of event tick len task job how) ≡ length event + length tick + length len + length task + length job + length how + 6
line_length event tick len task job how = simp length-append (omega arith)

-- the word for whether a release was kept has at most 7 bytes
kept_length : (kept : Bool) → length (kept_word kept) ≤ 7
kept_length true = omega arith
kept_length false = omega arith

how_length : (how : How) → length (how_word how) ≤ 4
how_length More = omega arith
how_length how = omega arith

-- the line of a run has at most 66 bytes for each row, less 5 for each tick
line_le : (set : List Task) (tick : ℕ) (r : Run) → AllByRecursion IsTask set → IsRun r → HasCountBelow 10000000 (row_of r) → tick + length_of r < 10000000 → length (run_line set tick r) + 5 * length_of r ≤ 66 * size r
unfolding run_line
line_le set tick (run.Release j kept) is v count short =
    let line = line_length (codes "release") (decimal tick) [] (name_in (task_at set j.task.0)) (decimal j.count) (kept_word kept) in
    let at = seven_digits tick (omega (arith, short)) in
    let number = seven_digits j.count count in
    omega (arith, line, at, number, name_of_task set j.task.0 is, kept_length kept)
line_le set tick (run.Ticks j how n) is v count short =
    let line = line_length (codes "tick") (decimal tick) (decimal n) (name_in (task_at set j.task.0)) (decimal j.count) (how_word how) in
    let at = seven_digits tick (omega (arith, short)) in
    let number = seven_digits j.count count in
    let some = v.0 in
    let digits = digits_le n (omega (arith, short)) some in
    omega (arith, line, at, number, some, digits, name_of_task set j.task.0 is, how_length how)
line_le set tick (run.Idles n) is v count short =
    let line = line_length (codes "idle") (decimal tick) (decimal n) [] [] [] in
    let at = seven_digits tick (omega (arith, short)) in
    let digits = digits_le n (omega (arith, short)) v in
    omega (arith, line, at, v, digits)

-- the lines of all runs have at most 66 bytes for each row, less 5 for each tick
lines_le : (set : List Task) (tick : ℕ) (runs : List Run) → AllByRecursion IsTask set → AllByRecursion IsRun runs → AllByRecursion (λ r. HasCountBelow 10000000 (row_of r)) runs → tick + total length_of runs < 10000000
    → length (lines_from set tick runs) + 5 * total length_of runs ≤ 66 * length (expand runs)
lines_le set tick [] is v counts short = omega arith
lines_le set tick (r ∷ runs) is v counts short =
    let here = line_le set tick r is v.0 counts.0 (omega (arith, short)) in
    let rest = lines_le set (tick + length_of r) runs is v.1 counts.1 (omega (arith, short)) in
    simp (length-append, length-replicate) (omega (arith, here, rest))

-- the text of rows has its header of 31 bytes, and at most 66 for each row, less 5 for each tick
text_le : (set : List Task) (rows : List Row) → AllByRecursion IsTask set → AllByRecursion (HasCountBelow 10000000) rows → length rows < 10000000 → length (trace_text set rows) + 5 * ticks rows ≤ 31 + 66 * length rows
text_le set rows is counts few =
    let all = ap length (expand-pack rows) in
    let sum : ticks rows ≡ total length_of (pack rows) = ap ticks (sym (expand-pack rows)) ∙ ticks-expand (pack rows) in
    let short = ticks-le rows in
    let each = each_of_all (λ r. HasCountBelow 10000000 (row_of r)) (pack rows) (of_rows (HasCountBelow 10000000) (pack rows) rows (pack-runs rows) (expand-pack rows) (All-from_recursion (HasCountBelow 10000000) rows counts)) in
    let lines = lines_le set 0 (pack rows) is (pack-runs rows) each (omega (arith, few, sum, short)) in
    let text = length-append (codes "event,tick,length,task,job,how\n") (lines_from set 0 (pack rows)) in
    omega (arith, all, sum, lines, text)

-- a job that has a tick was released
was_released : (set : List Task) (rule : Rule) (j : JobId) (how : How) (g : List Row) → Legal set rule (Tick j how ∷ g) → j.count ≤ releases g j.task.0
was_released set rule j how g legal =
    elim (cases_lt (releases g j.task.0) j.count) [
      | inl more ↦
          let none = (counted set rule (Tick j how ∷ g) (bridge set rule (Tick j how ∷ g) legal).legal).fresh j more in
          let one : cond true 1 0 + used g j ≡ 0 = rw (same_job-refl j) at none in absurd (omega (arith, one))
      | inr few ↦ few
    ]

-- the counts of the jobs of a legal trace are no more than its rows
pub counts-below : (set : List Task) (rule : Rule) (m : ℕ) (h : List Row) → Legal set rule h → length h < m → AllByRecursion (HasCountBelow m) h
counts-below set rule m [] legal few = tt
counts-below set rule m (Release j kept ∷ g) legal few =
    let count = (release_fits set rule j kept g (bridge set rule (Release j kept ∷ g) legal).legal.1).count in
    (omega (arith, few, count, releases-le g j.task.0), counts-below set rule m g legal.2 (omega (arith, few)))
counts-below set rule m (Tick j how ∷ g) legal few =
    (omega (arith, few, was_released set rule j how g legal, releases-le g j.task.0), counts-below set rule m g legal.2 (omega (arith, few)))
counts-below set rule m (Idle ∷ g) legal few = (tt, counts-below set rule m g legal.2 (omega (arith, few)))

-- the text of a legal trace has at most 31 bytes, and 66 for each row, less 5 for each tick
pub trace_le : (set : List Task) (rule : Rule) (h : List Row) → AreTasks set → Legal set rule h → length h < 10000000 → length (trace_text set (reverse h)) + 5 * ticks h ≤ 31 + 66 * length h
trace_le set rule h is legal few =
    let counts = Each-reverse (HasCountBelow 10000000) h (counts-below set rule 10000000 h legal few) in
    let same = ticks-reverse h in
    let rows = length-reverse h in
    let text = text_le set (reverse h) is.each counts (omega (arith, few, rows)) in
    omega (arith, same, rows, text)

-- the text of a reply with a legal trace has at most 31 bytes, and 66 for each row, less 5 for each tick
pub trace_text_le : (set : List Task) (rule : Rule) (h : List Row) (reply : Reply) → AreTasks set → Legal set rule h → length h < 10000000 → reply ≡ traced set h → length reply.text + 5 * ticks h ≤ 31 + 66 * length h
trace_text_le set rule h reply is legal few same = subst (λ (r : Reply). length r.text + 5 * ticks h ≤ 31 + 66 * length h) (sym same) (trace_le set rule h is legal few)
