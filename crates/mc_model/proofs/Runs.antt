-- The rows of runs: their number, their ticks, and the order in which they are read.
use Rattle.std.proofs.Common.{◌≡◌, ◌≢◌, Bool, true, false, nat_le, ℕ, zero, suc, ◌+◌, ◌≤◌, ◌<◌, List, [], ◌∷◌, ◌++◌, All, length, get_or, take, reverse, replicate, refl, sym, ap, ◌∙◌, arith}
use Rattle.std.proofs.lemmas.List.{append_assoc, append-nil, length-append, length-replicate, reverse-append, take_more}
use Rattle.std.proofs.lemmas.List.Elements.{All-nil, All-append, All-replicate}
use Rattle.std.proofs.lemmas.Bool.Decides.{nat_tests}
use Rattle.std.specs.List.{AllByRecursion}
use Rattle.mc_task.specs.declared.task.JobId.{JobId}
use Rattle.mc_model.specs.declared.row.How.{How}
use Rattle.mc_model.specs.declared.row.How.TheVariants.{More}
use Rattle.mc_model.specs.declared.row.Row.{Row}
use Rattle.mc_model.specs.declared.row.Row.TheVariants.{Tick, Idle}
use Rattle.mc_model.specs.declared.run.Run.{Run}
use Rattle.mc_model.specs.declared.run.Run.TheVariants as run
use Rattle.mc_model.specs.Sums.{total}
use Rattle.mc_model.specs.Rows.{ticks}
use Rattle.mc_model.specs.Runs.{IsRun, row_of, size, rows_of, expand, length_of}
use Rattle.mc_model.proofs.Ticks.{ticks-append}

-- a valid run has at least one row
pub some_rows : (r : Run) → IsRun r → 1 ≤ size r
some_rows (run.Release j kept) v = omega arith
some_rows (run.Ticks j how n) v = v.0
some_rows (run.Idles n) v = v

-- a tick after which its job does not go on is alone in its run
pub alone : (j : JobId) (how : How) (n : ℕ) → IsRun (run.Ticks j how n) → how ≢ More → n ≡ 1
alone j how n v other = go (nat_le 2 n) refl
  where
    go : (b : Bool) → nat_le 2 n ≡ b → n ≡ 1
    go true m = absurd (other (v.1 (grind (arith, nat_tests))))
    go false m = let some = v.0 in grind (arith, nat_tests)

-- the rows of two joined lists of runs are the joined rows
pub expand-append : (rs ss : List Run) → expand (rs ++ ss) ≡ expand rs ++ expand ss
expand-append [] ss = refl
expand-append (r ∷ rs) ss = ap (λ xs. rows_of r ++ xs) (expand-append rs ss) ∙ sym (append_assoc (rows_of r) (expand rs) (expand ss))

-- one more run adds its rows at the end
pub expand-more : (rs : List Run) (r : Run) → expand (rs ++ r ∷ []) ≡ expand rs ++ rows_of r
expand-more rs r = expand-append rs (r ∷ []) ∙ ap (λ xs. expand rs ++ xs) (append-nil (rows_of r))

-- the rows up to and with the next run, from the rows before it
pub next_rows : (new old : List Row) (rs : List Run) (i : ℕ) (d : Run) → i < length rs → new ≡ old ++ rows_of (get_or rs i d) → old ≡ expand (take i rs) → new ≡ expand (take (i + 1) rs)
next_rows new old rs i d h e o = e ∙ (ap (λ xs. xs ++ rows_of (get_or rs i d)) o ∙ sym (ap expand (take_more rs i d h) ∙ expand-more (take i rs) (get_or rs i d)))

-- one more equal row at the end is one more at the start
copies_more : {X : Type 0} (n : ℕ) (x : X) → replicate n x ++ x ∷ [] ≡ x ∷ replicate n x
copies_more zero x = refl
copies_more (suc n) x = ap (λ xs. x ∷ xs) (copies_more n x)

-- equal rows in reverse order are the same rows
pub reverse-copies : {X : Type 0} (n : ℕ) (x : X) → reverse (replicate n x) ≡ replicate n x
reverse-copies zero x = refl
reverse-copies (suc n) x = reverse-append (x ∷ []) (replicate n x) ∙ (ap (λ xs. xs ++ x ∷ []) (reverse-copies n x) ∙ copies_more n x)

-- the rows of the first runs, the newest first, with those of the next run on top
pub rows_more : (rs : List Run) (i : ℕ) (d : Run) → i < length rs → reverse (expand (take (i + 1) rs)) ≡ rows_of (get_or rs i d) ++ reverse (expand (take i rs))
rows_more rs i d h =
    ap (λ xs. reverse (expand xs)) (take_more rs i d h)
    ∙ (ap reverse (expand-more (take i rs) (get_or rs i d))
    ∙ (reverse-append (expand (take i rs)) (rows_of (get_or rs i d)) ∙ ap (λ xs. xs ++ reverse (expand (take i rs))) (reverse-copies (size (get_or rs i d)) (row_of (get_or rs i d)))))

-- the ticks of a run's rows are its length
pub ticks_copies : (r : Run) → ticks (rows_of r) ≡ length_of r
ticks_copies (run.Release j kept) = refl
ticks_copies (run.Ticks j how n) = go n
  where
    go : (n : ℕ) → ticks (replicate n (Tick j how)) ≡ n
    go zero = refl
    go (suc n) = let more : ticks (replicate n (Tick j how)) ≡ n = go n in omega arith
ticks_copies (run.Idles n) = go n
  where
    go : (n : ℕ) → ticks (replicate n Idle) ≡ n
    go zero = refl
    go (suc n) = let more : ticks (replicate n Idle) ≡ n = go n in omega arith

-- the lengths of the runs add up to the ticks
pub ticks-expand : (rs : List Run) → ticks (expand rs) ≡ total length_of rs
ticks-expand [] = refl
ticks-expand (r ∷ rs) =
    let whole : ticks (rows_of r ++ expand rs) ≡ ticks (rows_of r) + ticks (expand rs) = ticks-append (rows_of r) (expand rs) in
    let first : ticks (rows_of r) ≡ length_of r = ticks_copies r in
    let rest : ticks (expand rs) ≡ total length_of rs = ticks-expand rs in
    omega arith

-- a run has at most one row more than ticks
size_le : (r : Run) → size r ≤ 1 + length_of r
size_le (run.Release j kept) = omega arith
size_le (run.Ticks j how n) = omega arith
size_le (run.Idles n) = omega arith

-- there are at most as many rows as runs and ticks together
pub length-expand-le : (rs : List Run) → length (expand rs) ≤ length rs + total length_of rs
length-expand-le [] = omega arith
length-expand-le (r ∷ rs) =
    let whole : length (rows_of r ++ expand rs) ≡ length (rows_of r) + length (expand rs) = length-append (rows_of r) (expand rs) in
    let first : length (rows_of r) ≡ size r = length-replicate (size r) (row_of r) in
    let most : size r ≤ 1 + length_of r = size_le r in
    let rest : length (expand rs) ≤ length rs + total length_of rs = length-expand-le rs in
    omega arith

-- a property of the row of each run is one of each row
pub all_expand : (P : Row → Type 0) (rs : List Run) → AllByRecursion (λ r. P (row_of r)) rs → All P (expand rs)
all_expand P [] h = All-nil P
all_expand P (r ∷ rs) h = All-append P (rows_of r) (expand rs) (All-replicate P (size r) (row_of r) h.0) (all_expand P rs h.1)
