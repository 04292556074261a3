-- The ticks and the lines of runs, with one more run after another.
use Rattle.std.proofs.Common.{◌≡◌, ℕ, ◌+◌, ◌<◌, ◌≤◌, List, [], ◌∷◌, ◌++◌, length, get_or, take, drop, ap, sym, ◌∙◌, append_assoc, arith}
use Rattle.std.proofs.lemmas.List.{at_drop_more, take_more, take-append-drop}
use Rattle.mc_task.specs.declared.task.Task.{Task}
use Rattle.mc_model.specs.Sums.{total}
use Rattle.mc_model.specs.Runs.{length_of, AreRuns}
use Rattle.mc_model.specs.TraceText.{run_line, lines_from}
use Rattle.mc_model.specs.declared.run.Run.{Run}
use Rattle.mc_model.proofs.Sums.{total-append}

-- one more run adds its length to the ticks of the runs
pub total-one : (before : List Run) (r : Run) → total length_of (before ++ r ∷ []) ≡ total length_of before + length_of r
total-one before r = let more = total-append length_of before (r ∷ []) in omega (arith, more)

-- the ticks up to and with the next run
pub ticks-more : (runs : List Run) (i t s : ℕ) (d : Run) → i < length runs → t ≡ total length_of (take i runs) → s ≡ t + length_of (get_or runs i d)
    → s ≡ total length_of (take (i + 1) runs)
ticks-more runs i t s d inside was more =
    let next = ap (total length_of) (take_more runs i d inside) ∙ total-one (take i runs) (get_or runs i d) in
    omega (arith, was, more, next)

-- the ticks up to and with the next run are at most 100,000,000
pub ticks-fit : (runs : List Run) (i t : ℕ) (d : Run) → i < length runs → AreRuns runs → t ≡ total length_of (take i runs) → t + length_of (get_or runs i d) ≤ 100000000
ticks-fit runs i t d inside v was =
    let short = v.short in
    let next = ticks-more runs i t (t + length_of (get_or runs i d)) d inside was (omega arith) in
    let parts = ap (total length_of) (sym (take-append-drop (i + 1) runs)) ∙ total-append length_of (take (i + 1) runs) (drop (i + 1) runs) in
    omega (arith, short, next, parts)

-- the text with the line of one more run
pub lines-more : (set : List Task) (runs : List Run) (i t s : ℕ) (d : Run) (out longer text : List ℕ) → i < length runs → s ≡ t + length_of (get_or runs i d)
    → longer ≡ out ++ run_line set t (get_or runs i d) → out ++ lines_from set t (drop i runs) ≡ text
    → longer ++ lines_from set s (drop (i + 1) runs) ≡ text
lines-more set runs i t s d out longer text inside ticks more h =
    rw (more, append_assoc, ticks) (rw (at_drop_more (lines_from set t) runs i d inside) at h)
