-- The rows of the runs from the newest on, as they are read.
use Rattle.std.proofs.Common.{◌≡◌, ℕ, suc, ◌+◌, ◌-◌, ◌≤◌, ◌<◌, List, ◌∷◌, ◌++◌, sym, ap, ◌∙◌, arith, length, reverse, replicate, take, drop, get_or}
use Rattle.std.proofs.lemmas.List.{append_assoc, take_all, reverse-append, take-append-drop, drop_more, length-append, length-reverse, length-replicate, replicate-append-replicate}
use Rattle.mc_model.specs.declared.row.Row.{Row}
use Rattle.mc_model.specs.declared.run.Run.{Run}
use Rattle.mc_model.specs.Runs.{row_of, size, rows_of, expand, AreRuns}
use Rattle.mc_model.proofs.Runs.{expand-append, rows_more, reverse-copies, length-expand-le}

-- the rows of the first runs, the newest first
abbrev pub read : List Run → ℕ → List Row
read runs i = reverse (expand (take i runs))

-- all rows are those of later runs, those of the run at index i, and those of the runs read before
pub rows_split : (runs : List Run) (i : ℕ) (d : Run) → i < length runs → reverse (expand runs) ≡ reverse (expand (drop (i + 1) runs)) ++ (rows_of (get_or runs i d) ++ read runs i)
rows_split runs i d h =
    let a : take i runs ++ get_or runs i d ∷ drop (i + 1) runs ≡ runs = ap (λ xs. take i runs ++ xs) (sym (drop_more runs i d h)) ∙ take-append-drop i runs in
    sym (ap (λ xs. reverse (expand xs)) a) ∙ simp (expand-append, reverse-append, reverse-copies, append_assoc)

-- valid runs have few rows
pub few_rows : (runs : List Run) → AreRuns runs → length (reverse (expand runs)) ≤ 102000000
few_rows runs v = omega (arith, v.few, v.short, length-expand-le runs, length-reverse (expand runs))

-- the rows of the runs that were read are among all rows
pub read_few : (runs : List Run) (i : ℕ) → length (read runs i) ≤ length (expand runs)
read_few runs i =
    let whole : length (expand runs) ≡ length (expand (take i runs)) + length (expand (drop i runs)) = ap (λ (xs : List Run). length (expand xs)) (sym (take-append-drop i runs)) ∙ (ap length (expand-append (take i runs) (drop i runs)) ∙ length-append (expand (take i runs)) (expand (drop i runs))) in
    omega (arith, whole, length-reverse (expand (take i runs)))

-- the rows of the runs that were read and of the next run are among all rows
pub read_le : (runs : List Run) (i : ℕ) (r : Run) → i < length runs → r ≡ get_or runs i r → length (read runs i) + size r ≤ length (expand runs)
read_le runs i r h e =
    let later : List Row = reverse (expand (drop (i + 1) runs)) in
    let whole : length (reverse (expand runs)) ≡ length (later ++ (rows_of r ++ read runs i)) = ap length (rows_split runs i r h ∙ ap (λ x. later ++ (rows_of x ++ read runs i)) (sym e)) in
    omega (arith, whole, length-reverse (expand runs), length-append later (rows_of r ++ read runs i), length-append (rows_of r) (read runs i), length-replicate (size r) (row_of r))

-- equal rows, split at one of them
pub copies_split : (n k : ℕ) (row : Row) → k < n → replicate n row ≡ replicate (n - k - 1) row ++ row ∷ replicate k row
copies_split n k row h =
    let e : n - k - 1 + suc k ≡ n = omega (arith, h) in
    ap (λ (m : ℕ). replicate m row) (sym e) ∙ sym (replicate-append-replicate (n - k - 1) (suc k) row)

-- the rows read with the run at index i
pub one_read : (runs : List Run) (i : ℕ) (r : Run) → i < length runs → r ≡ get_or runs i r → read runs (i + 1) ≡ rows_of r ++ read runs i
one_read runs i r h e = rows_more runs i r h ∙ ap (λ (x : Run). rows_of x ++ read runs i) (sym e)

-- all rows, with those of the run at index i in their midst
pub around_run : (runs : List Run) (i : ℕ) (r : Run) → i < length runs → r ≡ get_or runs i r → reverse (expand runs) ≡ reverse (expand (drop (i + 1) runs)) ++ (rows_of r ++ read runs i)
around_run runs i r h e = rows_split runs i r h ∙ ap (λ (x : Run). reverse (expand (drop (i + 1) runs)) ++ (rows_of x ++ read runs i)) (sym e)

-- the rows read with the run at index i, after other rows
pub one_read_after : (runs : List Run) (i : ℕ) (r : Run) (h : List Row) → i < length runs → r ≡ get_or runs i r → read runs (i + 1) ++ h ≡ rows_of r ++ (read runs i ++ h)
one_read_after runs i r h l e = ap (λ xs. xs ++ h) (one_read runs i r l e) ∙ append_assoc (rows_of r) (read runs i) h

-- all rows, with those of the run at index i in their midst, after other rows
pub around_run_after : (runs : List Run) (i : ℕ) (r : Run) (h : List Row) → i < length runs → r ≡ get_or runs i r → reverse (expand runs) ++ h ≡ reverse (expand (drop (i + 1) runs)) ++ (rows_of r ++ (read runs i ++ h))
around_run_after runs i r h l e =
    let later : List Row = reverse (expand (drop (i + 1) runs)) in
    ap (λ xs. xs ++ h) (around_run runs i r l e) ∙ (append_assoc later (rows_of r ++ read runs i) h ∙ ap (λ xs. later ++ xs) (append_assoc (rows_of r) (read runs i) h))

-- once all runs are read, the rows that were read are all rows
pub all_read : (runs : List Run) (i : ℕ) → length runs ≤ i → read runs i ≡ reverse (expand runs)
all_read runs i e = ap (λ (xs : List Run). reverse (expand xs)) (take_all _ _ e)
