-- The packed runs of a trace expand to it, no other packed runs do, and no runs of it are fewer.
use Rattle.std.proofs.Common.{◌≡◌, ℕ, zero, suc, ◌+◌, ◌-◌, ◌≤◌, Bool, true, false, List, [], ◌∷◌, ◌++◌, All, cond, length, replicate, refl, sym, ap, ◌∙◌, subst, arith}
use Rattle.std.specs.List.{AllByRecursion}
use Rattle.std.proofs.lemmas.List.Elements.{All-nil, All-cons}
use Rattle.mc_task.proofs.TaskLemmas.{each_of_all}
use Rattle.mc_model.specs.declared.row.How.TheVariants.{More}
use Rattle.mc_model.specs.declared.row.Row.{Row}
use Rattle.mc_model.specs.declared.row.Row.TheVariants.{Release, Tick, Idle}
use Rattle.mc_model.specs.declared.run.Run.{Run}
use Rattle.mc_model.specs.declared.run.Run.TheVariants as run
use Rattle.mc_model.specs.Sums.{total}
use Rattle.mc_model.specs.Rows.{ticks}
use Rattle.mc_model.specs.Runs.{row_of, size, rows_of, expand, length_of, IsRun, AreRuns, joins, IsPacked, run_of, longer, put_before, pack}
use Rattle.mc_model.proofs.Ticks.{ticks-le}
use Rattle.mc_model.proofs.Runs.{some_rows, ticks-expand}
use Rattle.mc_model.proofs.Jobs.{job_eq, same_job-refl}

-- a row as a run stands for that row alone
rows_run_of : (row : Row) → rows_of (run_of row) ≡ row ∷ []
rows_run_of (Release j kept) = refl
rows_run_of (Tick j how) = refl
rows_run_of Idle = refl

-- n + 1 copies are one and n more
copies_next : {X : Type 0} (n : ℕ) (x : X) → replicate (n + 1) x ≡ x ∷ replicate n x
copies_next n x = let e : n + 1 ≡ suc n = omega arith in ap (λ (k : ℕ). replicate k x) e

-- the longer run stands for the row, then the rows of the run
rows_longer : (row : Row) (r : Run) → joins (run_of row) r ≡ true → rows_of (longer r) ≡ row ∷ rows_of r
rows_longer (Release j kept) r h = cc
rows_longer (Tick i More) (run.Ticks j More n) h = copies_next n (Tick j More) ∙ ap (λ k. Tick k More ∷ replicate n (Tick j More)) (sym (job_eq i j h))
rows_longer (Tick i how) r h = cc
rows_longer Idle (run.Idles n) h = copies_next n Idle
rows_longer Idle r h = cc

-- putting a row before runs puts it before their rows
pub expand-put : (row : Row) (rs : List Run) → expand (put_before row rs) ≡ row ∷ expand rs
expand-put row [] = ap (λ xs. xs ++ []) (rows_run_of row)
expand-put row (r ∷ rs) = go (joins (run_of row) r) refl
  where
    go : (b : Bool) → joins (run_of row) r ≡ b → expand (cond b (longer r ∷ rs) (run_of row ∷ r ∷ rs)) ≡ row ∷ rows_of r ++ expand rs
    go true m = ap (λ xs. xs ++ expand rs) (rows_longer row r m)
    go false m = ap (λ xs. xs ++ (rows_of r ++ expand rs)) (rows_run_of row)

-- the packed runs of a trace expand to it
pub expand-pack : (h : List Row) → expand (pack h) ≡ h
expand-pack [] = refl
expand-pack (row ∷ h) = expand-put row (pack h) ∙ ap (λ xs. row ∷ xs) (expand-pack h)

-- a valid run that can take the row is valid with it
longer_is : (row : Row) (r : Run) → IsRun r → joins (run_of row) r ≡ true → IsRun (longer r)
longer_is row (run.Release j kept) v h = v
longer_is (Tick i More) (run.Ticks j More n) v h = (omega arith, λ m. refl)
longer_is row (run.Ticks j how n) v h = cc
longer_is row (run.Idles n) v h = omega arith

run_of_is : (row : Row) → IsRun (run_of row)
run_of_is (Release j kept) = tt
run_of_is (Tick j how) = (omega arith, λ m. absurd (omega arith))
run_of_is Idle = omega arith

put_is : (row : Row) (rs : List Run) → AllByRecursion IsRun rs → AllByRecursion IsRun (put_before row rs)
put_is row [] v = (run_of_is row, tt)
put_is row (r ∷ rs) v = go (joins (run_of row) r) refl
  where
    go : (b : Bool) → joins (run_of row) r ≡ b → AllByRecursion IsRun (cond b (longer r ∷ rs) (run_of row ∷ r ∷ rs))
    go true m = (longer_is row r v.0 m, v.1)
    go false m = (run_of_is row, v)

pub pack-runs : (h : List Row) → AllByRecursion IsRun (pack h)
pack-runs [] = tt
pack-runs (row ∷ h) = put_is row (pack h) (pack-runs h)

-- a run of one row is the run of that row
run_of_row : (r : Run) → size r ≡ 1 → run_of (row_of r) ≡ r
run_of_row (run.Release j kept) e = refl
run_of_row (run.Ticks j how n) e = ap (λ (k : ℕ). run.Ticks j how k) (sym e)
run_of_row (run.Idles n) e = ap (λ (k : ℕ). run.Idles k) (sym e)

-- a run of one row stays alone before runs that it cannot join
put_apart : (r : Run) (rs : List Run) → size r ≡ 1 → IsPacked (r ∷ rs) → put_before (row_of r) rs ≡ r ∷ rs
put_apart r [] e p = ap (λ s. s ∷ []) (run_of_row r e)
put_apart r (s ∷ rs) e p = rw (run_of_row r e, p.0) refl

-- the run with n rows like this run's
abbrev times : ℕ → Run → Run
times n (run.Release j kept) = run.Release j kept
times n (run.Ticks j how k) = run.Ticks j how n
times n (run.Idles k) = run.Idles n

-- the run with n rows has the row of the run, joins the same runs, and is valid up to the length of the run
times_row : (n : ℕ) (r : Run) → row_of (times n r) ≡ row_of r
times_row n (run.Release j kept) = refl
times_row n (run.Ticks j how k) = refl
times_row n (run.Idles k) = refl

times_joins : (n : ℕ) (r s : Run) → joins (times n r) s ≡ joins r s
times_joins n (run.Release j kept) s = refl
times_joins n (run.Ticks i More m) (run.Ticks j More k) = refl
times_joins n (run.Ticks i how m) s = refl
times_joins n (run.Idles m) s = refl

times_packed : (n : ℕ) (r : Run) (rs : List Run) → IsPacked (r ∷ rs) → IsPacked (times n r ∷ rs)
times_packed n r [] p = tt
times_packed n r (s ∷ rs) p = (times_joins n r s ∙ p.0, p.1)

times_is : (n : ℕ) (r : Run) → IsRun r → 1 ≤ n → n ≤ size r → IsRun (times n r)
times_is n (run.Release j kept) v a b = tt
times_is n (run.Ticks j how k) v a b = (a, λ m. v.1 (omega arith))
times_is n (run.Idles k) v a b = a

times_size : (n : ℕ) (r : Run) → 2 ≤ size r → size (times n r) ≡ n
times_size n (run.Release j kept) m = absurd (omega (arith, m))
times_size n (run.Ticks j how k) m = refl
times_size n (run.Idles k) m = refl

times_all : (n : ℕ) (r : Run) → size r ≡ n → times n r ≡ r
times_all n (run.Release j kept) e = refl
times_all n (run.Ticks j how k) e = ap (λ (m : ℕ). run.Ticks j how m) (sym e)
times_all n (run.Idles k) e = ap (λ (m : ℕ). run.Idles m) (sym e)

-- a run that may have more than one row takes one more of its own
takes_own : (n : ℕ) (r : Run) (rs : List Run) → IsRun r → 2 ≤ size r → put_before (row_of r) (times n r ∷ rs) ≡ times (n + 1) r ∷ rs
takes_own n (run.Release j kept) rs v m = absurd (omega (arith, m))
takes_own n (run.Ticks j how k) rs v m = rw (v.1 m, same_job-refl j) refl
takes_own n (run.Idles k) rs v m = refl

-- the rows of a run, before rows whose runs it cannot join, pack into that run before those runs
pack_rows : (n : ℕ) (r : Run) (rs : List Run) (h : List Row) → IsRun r → size r ≡ n + 1 → pack h ≡ rs → IsPacked (r ∷ rs) → pack (replicate (suc n) (row_of r) ++ h) ≡ r ∷ rs
pack_rows zero r rs h v s e p = ap (put_before (row_of r)) e ∙ put_apart r rs (omega (arith, s)) p
pack_rows (suc m) r rs h v s e p =
    let two : 2 ≤ size r = omega (arith, s) in
    let less : m + 1 ≤ size r = omega (arith, s) in
    let n : m + 1 + 1 ≡ size r = omega (arith, s) in
    let ih = pack_rows m (times (m + 1) r) rs h (times_is (m + 1) r v (omega arith) less) (times_size (m + 1) r two) e (times_packed (m + 1) r rs p) in
    let ih : pack (replicate (suc m) (row_of r) ++ h) ≡ times (m + 1) r ∷ rs = subst (λ row. pack (replicate (suc m) row ++ h) ≡ times (m + 1) r ∷ rs) (times_row (m + 1) r) ih in
    ap (put_before (row_of r)) ih ∙ (takes_own (m + 1) r rs v two ∙ ap (λ x. x ∷ rs) (times_all (m + 1 + 1) r (sym n)))

packed_rest : (r : Run) (rs : List Run) → IsPacked (r ∷ rs) → IsPacked rs
packed_rest r [] p = tt
packed_rest r (s ∷ rs) p = p.1

-- packed runs are the runs of their rows, so a trace has no other packed runs
pub pack-expand : (rs : List Run) → AllByRecursion IsRun rs → IsPacked rs → pack (expand rs) ≡ rs
pack-expand [] v p = refl
pack-expand (r ∷ rs) v p =
    let some = some_rows r v.0 in
    let n : size r ≡ size r - 1 + 1 = omega (arith, some) in
    let m : suc (size r - 1) ≡ size r = omega (arith, some) in
    subst (λ (k : ℕ). pack (replicate k (row_of r) ++ expand rs) ≡ r ∷ rs) m
    (pack_rows (size r - 1) r rs (expand rs) v.0 n (pack-expand rs v.1 (packed_rest r rs p)) p)

-- the packed runs of a trace are the fewest

-- a row adds at most one run
put_le : (row : Row) (rs : List Run) → length (put_before row rs) ≤ length rs + 1
put_le row [] = omega arith
put_le row (r ∷ rs) = elim (joins (run_of row) r) as (λ b. length (cond b (longer r ∷ rs) (run_of row ∷ r ∷ rs)) ≤ length (r ∷ rs) + 1) [ true ↦ omega arith | false ↦ omega arith ]

-- a trace has at most one run for each row
pub length-pack-le : (h : List Row) → length (pack h) ≤ length h
length-pack-le [] = omega arith
length-pack-le (row ∷ h) = let one = put_le row (pack h) in let rest : length (pack h) ≤ length h = length-pack-le h in omega (arith, one, rest)

-- a second equal row adds no run if the run of the row can take it
own_again : (row : Row) → joins (run_of row) (run_of row) ≡ true → (rs : List Run) → length (put_before row (put_before row rs)) ≡ length (put_before row rs)
own_again row h [] = rw h refl
own_again row h (r ∷ rs) = go (joins (run_of row) r) refl
  where
    still : (row : Row) (r : Run) → joins (run_of row) r ≡ true → joins (run_of row) (longer r) ≡ true
    still (Tick i More) (run.Ticks j More n) m = m
    still Idle (run.Idles n) m = refl
    still row r m = cc

    go : (b : Bool) → joins (run_of row) r ≡ b → length (put_before row (cond b (longer r ∷ rs) (run_of row ∷ r ∷ rs))) ≡ length (cond b (longer r ∷ rs) (run_of row ∷ r ∷ rs))
    go true m = rw (still row r m) refl
    go false m = rw h refl

-- the rows of one run add at most one run
run_le : (n : ℕ) (row : Row) (h : List Row) → (2 ≤ n → joins (run_of row) (run_of row) ≡ true) → length (pack (replicate n row ++ h)) ≤ length (pack h) + 1
run_le zero row h j = omega arith
run_le (suc zero) row h j = put_le row (pack h)
run_le (suc (suc n)) row h j =
    let again = own_again row (j (omega arith)) (pack (replicate n row ++ h)) in
    let ih : length (pack (replicate (suc n) row ++ h)) ≤ length (pack h) + 1 = run_le (suc n) row h (λ m. j (omega arith)) in
    omega (arith, again, ih)

own_joins : (r : Run) → IsRun r → 2 ≤ size r → joins (run_of (row_of r)) (run_of (row_of r)) ≡ true
own_joins (run.Release j kept) v m = absurd (omega (arith, m))
own_joins (run.Ticks j how n) v m = rw (v.1 m, same_job-refl j) refl
own_joins (run.Idles n) v m = refl

-- no runs of a trace are fewer than the packed ones
pub length-pack-expand : (rs : List Run) → AllByRecursion IsRun rs → length (pack (expand rs)) ≤ length rs
length-pack-expand [] v = omega arith
length-pack-expand (r ∷ rs) v =
    let one = run_le (size r) (row_of r) (expand rs) (own_joins r v.0) in
    let rest : length (pack (expand rs)) ≤ length rs = length-pack-expand rs v.1 in
    omega (arith, one, rest)

-- a property of each element, from element by element to all
all_of_each : {X : Type 0} (P : X → Type 0) (xs : List X) → AllByRecursion P xs → All P xs
all_of_each P [] h = All-nil P
all_of_each P (x ∷ xs) h = All-cons P x xs h.0 (all_of_each P xs h.1)

-- the runs of a trace that is not too long are valid
pub pack-valid : (h : List Row) → length h ≤ 2000000 → AreRuns (pack h)
pack-valid h few = record {
  each = all_of_each IsRun (pack h) (pack-runs h);
  few = omega (arith, few, length-pack-le h);
  short = let t : ticks h ≡ total length_of (pack h) = ap ticks (sym (expand-pack h)) ∙ ticks-expand (pack h) in omega (arith, few, t, ticks-le h);
}

-- the packed runs of a valid list of runs are valid
pub repack-valid : (rs : List Run) → AreRuns rs → AreRuns (pack (expand rs))
repack-valid rs v = record {
  each = all_of_each IsRun (pack (expand rs)) (pack-runs (expand rs));
  few = let few = v.few in omega (arith, few, length-pack-expand rs (each_of_all IsRun rs v.each));
  short =
      let short = v.short in
      let t : total length_of rs ≡ total length_of (pack (expand rs)) = sym (ticks-expand rs) ∙ (ap ticks (sym (expand-pack (expand rs))) ∙ ticks-expand (pack (expand rs))) in
      omega (arith, short, t);
}
