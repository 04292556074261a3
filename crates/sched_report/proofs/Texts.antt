-- Texts that grow piece by piece, and sums that grow task by task.
use Rattle.std.proofs.Common.{◌≡◌, ℕ, ◌+◌, ◌*◌, ◌^◌, ◌<◌, List, [], ◌∷◌, ◌++◌, Some, length, get_or, drop, take, reverse, slice_get, refl, sym, ap, subst, ◌∙◌, arith, append_assoc}
use Rattle.std.proofs.lemmas.List.{drop_more, reverse-append, take-append-drop}
use Rattle.std.proofs.lemmas.Option.{get_or_from_slice_get}
use Rattle.mc_task.specs.declared.task.Rule.{Rule}
use Rattle.mc_task.specs.declared.task.Task.{Task}
use Rattle.mc_model.specs.declared.row.Row.{Row}
use Rattle.mc_model.specs.declared.run.Run.{Run}
use Rattle.mc_model.specs.Runs.{row_of, size, expand, IsRun}
use Rattle.mc_model.proofs.Runs.{some_rows, expand-append, rows_more}
use Rattle.mc_model.proofs.Steps.{legal_earlier}
use Rattle.sched_report.proofs.Steps.{inside}
use Rattle.mc_model.specs.Legal.{Legal, IsOfSet}
use Rattle.sched_report.specs.ReportText.{JobCounts, plus, sum_counts, report_line, report_lines}
use Rattle.mc_model.proofs.Walk.{drop_at}
use Rattle.sched_report.specs.declared.task_tally.TaskTally.{TaskTally}
use Rattle.sched_report.specs.TaskTally.{tally_of, IsSmall}
use Rattle.sched_report.specs.Tally.{numbered}
use Rattle.sched_report.specs.declared.counts.Counts as mine
use Rattle.sched_report.specs.Counts.{counts_in, counts_of_tally, sum_tallies, tally_line, AreAtMost}
use Rattle.sched_report.proofs.Numbered.{get-numbered}

-- the rows of the first runs of a legal trace are legal
pub legal_first : (set : List Task) (rule : Rule) (runs : List Run) (i : ℕ) → Legal set rule (reverse (expand runs)) → Legal set rule (reverse (expand (take i runs)))
legal_first set rule runs i l =
    legal_earlier set rule (reverse (expand (drop i runs))) (reverse (expand (take i runs)))
    (subst (Legal set rule) (ap (λ xs. reverse (expand xs)) (sym (take-append-drop i runs)) ∙ (ap reverse (expand-append (take i runs) (drop i runs)) ∙ reverse-append (expand (take i runs)) (expand (drop i runs)))) l)

-- a run of a trace is of its set
pub run_inside : (set : List Task) (rule : Rule) (runs : List Run) (i : ℕ) (d : Run) → i < length runs → IsRun (get_or runs i d) → Legal set rule (reverse (expand runs)) → IsOfSet set (row_of (get_or runs i d))
run_inside set rule runs i d h v l =
    inside set rule (row_of (get_or runs i d)) (size (get_or runs i d)) (reverse (expand (take i runs))) (some_rows (get_or runs i d) v) (subst (Legal set rule) (rows_more runs i d h) (legal_first set rule runs (i + 1) l))

-- the text with one more line
pub line_more : (set : List Task) (h : List Row) (i : ℕ) (t : Task) (text longer last whole : List ℕ) (s : TaskTally) → slice_get set i ≡ Some t → s ≡ tally_of set h (i + 1) → longer ≡ text ++ tally_line t.name s
    → text ++ (report_lines set h (i + 1) (drop i set) ++ last) ≡ whole → longer ++ (report_lines set h (i + 1 + 1) (drop (i + 1) set) ++ last) ≡ whole
unfolding report_line tally_line
line_more set h i t text longer last whole s found is longer_is inv =
    rw (longer_is, is) (simp append_assoc (simp append_assoc at (rw (drop_at set i t found) at inv)))

-- counts are equal if their parts are
counts_eq : (a b : JobCounts) → a.released ≡ b.released → a.kept ≡ b.kept → a.dropped ≡ b.dropped → a.discarded ≡ b.discarded → a.done ≡ b.done → a.stopped ≡ b.stopped → a ≡ b
counts_eq a b released kept dropped discarded done stopped = λ i. record { released = released i; kept = kept i; dropped = dropped i; discarded = discarded i; done = done i; stopped = stopped i }

plus_assoc : (a b c : JobCounts) → plus (plus a b) c ≡ plus a (plus b c)
plus_assoc a b c = counts_eq (plus (plus a b) c) (plus a (plus b c)) (omega arith) (omega arith) (omega arith) (omega arith) (omega arith) (omega arith)

-- the sum with one tally more
pub sum_more : (ts : List TaskTally) (i : ℕ) (d : TaskTally) (sum more whole : JobCounts) → i < length ts → more ≡ plus sum (counts_of_tally (get_or ts i d))
    → plus sum (sum_tallies (drop i ts)) ≡ whole → plus more (sum_tallies (drop (i + 1) ts)) ≡ whole
sum_more ts i d sum more whole inside is inv =
    ap (λ c. plus c (sum_tallies (drop (i + 1) ts))) is
    ∙ (plus_assoc sum (counts_of_tally (get_or ts i d)) (sum_tallies (drop (i + 1) ts))
    ∙ (ap (λ (l : List TaskTally). plus sum (sum_tallies l)) (sym (drop_more ts i d inside)) ∙ inv))

-- the sum of all tallies is the sum in the model
pub sum_is : (set : List Task) (h : List Row) (k : ℕ) (ts : List Task) → sum_tallies (numbered (tally_of set h) k ts) ≡ sum_counts set h k ts
sum_is set h k [] = refl
sum_is set h k (t ∷ ts) = ap (plus (counts_of_tally (tally_of set h k))) (sum_is set h (k + 1) ts)

-- the tally at an index is that of the next task number
pub tally_at : (set : List Task) (h : List Row) (s : List TaskTally) (i : ℕ) (x : TaskTally) → s ≡ numbered (tally_of set h) 1 set → i < length set → x ≡ get_or s i x → x ≡ tally_of set h (i + 1)
tally_at set h s i x is inside read =
    let found : slice_get s i ≡ Some (tally_of set h (i + 1)) = ap (λ l. slice_get l i) is ∙ get-numbered (tally_of set h) 1 i (i + 1) set inside (omega arith) in
    read ∙ get_or_from_slice_get s i (tally_of set h (i + 1)) x found

-- the counts of a small tally are small
pub small_counts : (t : TaskTally) (c : mine.Counts) → counts_in c ≡ counts_of_tally t → IsSmall t → AreAtMost (2 ^ 24) c
small_counts t c is s = record {
  released = let e = ap (λ (x : JobCounts). x.released) is in omega (arith, e, s.released);
  kept = let e = ap (λ (x : JobCounts). x.kept) is in omega (arith, e, s.kept);
  dropped = let e = ap (λ (x : JobCounts). x.dropped) is in omega (arith, e, s.dropped);
  discarded = let e = ap (λ (x : JobCounts). x.discarded) is in omega (arith, e, s.discarded);
  done = let e = ap (λ (x : JobCounts). x.done) is in omega (arith, e, s.done);
  stopped = let e = ap (λ (x : JobCounts). x.stopped) is in omega (arith, e, s.stopped);
}

-- a sum grows by at most 2^24 when counts of at most 2^24 are added
pub sum_grows : (i : ℕ) (a b c : mine.Counts) → counts_in c ≡ plus (counts_in a) (counts_in b) → AreAtMost (i * 2 ^ 24) a → AreAtMost (2 ^ 24) b → AreAtMost ((i + 1) * 2 ^ 24) c
sum_grows i a b c is s t = record {
  released = let e = ap (λ (x : JobCounts). x.released) is in omega (arith, e, s.released, t.released);
  kept = let e = ap (λ (x : JobCounts). x.kept) is in omega (arith, e, s.kept, t.kept);
  dropped = let e = ap (λ (x : JobCounts). x.dropped) is in omega (arith, e, s.dropped, t.dropped);
  discarded = let e = ap (λ (x : JobCounts). x.discarded) is in omega (arith, e, s.discarded, t.discarded);
  done = let e = ap (λ (x : JobCounts). x.done) is in omega (arith, e, s.done, t.done);
  stopped = let e = ap (λ (x : JobCounts). x.stopped) is in omega (arith, e, s.stopped, t.stopped);
}
