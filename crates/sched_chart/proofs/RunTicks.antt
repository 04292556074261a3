-- The ticks of runs, with one more run after another.
use Rattle.std.proofs.Common.{◌≡◌, ℕ, ◌+◌, ◌<◌, ◌≤◌, ◌++◌, List, length, get_or, take, drop, reverse, [], ◌∷◌, zero, suc, replicate, refl, sym, ap, ◌∙◌, arith}
use Rattle.std.proofs.lemmas.List.{take_all, take-append-drop}
use Rattle.std.specs.List.{AllByRecursion}
use Rattle.mc_model.specs.declared.run.Run.{Run}
use Rattle.mc_model.specs.declared.row.Row.{Row}
use Rattle.mc_model.specs.Rows.{ticks}
use Rattle.mc_model.specs.Runs.{expand, rows_of, row_of, length_of, IsRun, size}
use Rattle.mc_model.proofs.Ticks.{ticks-append, ticks-reverse}
use Rattle.mc_model.proofs.Runs.{rows_more, expand-append, ticks_copies, some_rows}

pub more : (runs : List Run) (i : ℕ) (d : Run) (t s : ℕ) → i < length runs → ticks (reverse (expand (take i runs))) ≡ t → s ≡ t + length_of (get_or runs i d)
    → ticks (reverse (expand (take (i + 1) runs))) ≡ s
more runs i d t s inside was is =
    let e = ap ticks (rows_more runs i d inside) in
    let a = ticks-append (rows_of (get_or runs i d)) (reverse (expand (take i runs))) in
    omega (arith, was, is, e, a, ticks_copies (get_or runs i d))

-- the ticks of all rows are the same in reverse order
pub reversed : (runs : List Run) → ticks (reverse (expand runs)) ≡ ticks (expand runs)
reversed runs = ticks-reverse (expand runs)

pub whole : (runs : List Run) (i t : ℕ) → length runs ≤ i → ticks (reverse (expand (take i runs))) ≡ t → t ≡ ticks (reverse (expand runs))
whole runs i t past was = sym was ∙ ap (λ (rs : List Run). ticks (reverse (expand rs))) (take_all i runs past)

-- the first runs have no more ticks than all runs
pub first : (runs : List Run) (i : ℕ) → ticks (reverse (expand (take i runs))) ≤ ticks (reverse (expand runs))
first runs i =
    let parts : ticks (expand runs) ≡ ticks (expand (take i runs)) + ticks (expand (drop i runs)) =
    ap (λ (rs : List Run). ticks (expand rs)) (sym (take-append-drop i runs)) ∙ (ap ticks (expand-append (take i runs) (drop i runs)) ∙ ticks-append (expand (take i runs)) (expand (drop i runs))) in
    omega (arith, parts, reversed runs, reversed (take i runs))

pub fit : (runs : List Run) (i t n : ℕ) (d : Run) → i < length runs → ticks (reverse (expand (take i runs))) ≡ t → ticks (expand runs) ≤ n → t + length_of (get_or runs i d) ≤ n
fit runs i t n d inside was few =
    let next = more runs i d t (t + length_of (get_or runs i d)) inside was refl in
    omega (arith, next, first runs (i + 1), reversed runs, few)

-- what holds of each of equal rows, and of those after them, holds of the row
head : (P : Row → Type 0) (row : Row) (rows : List Row) (n : ℕ) → 1 ≤ n → AllByRecursion P (replicate n row ++ rows) → P row
head P row rows zero some h = absurd (omega arith)
head P row rows (suc n) some h = h.0

after_equal : (P : Row → Type 0) (row : Row) (rows : List Row) (n : ℕ) → AllByRecursion P (replicate n row ++ rows) → AllByRecursion P rows
after_equal P row rows zero h = h
after_equal P row rows (suc n) h = after_equal P row rows n h.1

-- the row of a run is of the set if all rows are
pub of_set : (P : Row → Type 0) (runs : List Run) (i : ℕ) (d : Run) → i < length runs → AllByRecursion IsRun runs → AllByRecursion P (expand runs) → P (row_of (get_or runs i d))
of_set P [] i d inside is h = absurd (omega arith)
of_set P (r ∷ rs) zero d inside is h = head P (row_of r) (expand rs) (size r) (some_rows r is.0) h
of_set P (r ∷ rs) (suc i) d inside is h = of_set P rs i d (omega arith) is.1 (after_equal P (row_of r) (expand rs) (size r) h)
