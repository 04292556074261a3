-- The first of the packed runs of rows, and the rows after it.
use Rattle.std.proofs.Common.{All, ◌≡◌, ℕ, suc, ◌+◌, ◌≤◌, ◌<◌, Bool, true, false, cond, List, [], ◌∷◌, ◌++◌, length, get_or, drop, replicate, refl, sym, ap, ◌∙◌, subst, arith, append_assoc}
use Rattle.std.proofs.lemmas.List.{length-append, length-replicate}
use Rattle.std.proofs.lemmas.List.Elements.{All-from_recursion, recursion_from_All}
use Rattle.std.specs.List.{AllByRecursion}
use Rattle.mc_task.specs.declared.task.JobId.{JobId}
use Rattle.mc_task.specs.declared.task.Task.{Task}
use Rattle.mc_model.specs.declared.row.How.{How}
use Rattle.mc_model.specs.declared.row.How.TheVariants.{More}
use Rattle.mc_model.specs.declared.row.Row.{Row}
use Rattle.mc_model.specs.declared.row.Row.TheVariants.{Release, Tick, Idle}
use Rattle.mc_model.specs.declared.run.Run.{Run}
use Rattle.mc_model.specs.declared.run.Run.TheVariants as run
use Rattle.mc_model.specs.Runs.{row_of, size, rows_of, expand, length_of, joins, longer, run_of, put_before, pack, IsRun, IsRunOfSet, IsPacked}
use Rattle.mc_model.specs.Legal.{IsOfSet}
use Rattle.mc_model.specs.TraceText.{run_line, lines_from}
use Rattle.mc_model.proofs.Jobs.{job_eq}
use Rattle.mc_model.proofs.Runs.{some_rows}
use Rattle.mc_model.proofs.Packing.{expand-pack, pack-runs, pack-expand}
use Rattle.trace_format.specs.Packing.{StartsApart}
use Rattle.trace_format.proofs.PackLemmas.{any_length, of_rows}

-- a run with one more row could be one with the runs that the run could be one with
longer_same : (r s : Run) → joins (longer r) s ≡ joins r s
longer_same (run.Release j kept) s = refl
longer_same (run.Ticks i More m) (run.Ticks j More n) = refl
longer_same (run.Ticks i how m) s = refl
longer_same (run.Idles m) s = refl

-- packed runs stay packed if the first has one more row
longer_packed : (r : Run) (rs : List Run) → IsPacked (r ∷ rs) → IsPacked (longer r ∷ rs)
longer_packed r [] p = tt
longer_packed r (s ∷ rs) p = (longer_same r s ∙ p.0, p.1)

-- packed runs stay packed if a row is put before them
put_packed : (row : Row) (rs : List Run) → IsPacked rs → IsPacked (put_before row rs)
put_packed row [] p = tt
put_packed row (r ∷ rs) p = go (joins (run_of row) r) refl
  where
    go : (b : Bool) → joins (run_of row) r ≡ b → IsPacked (cond b (longer r ∷ rs) (run_of row ∷ r ∷ rs))
    go true m = longer_packed r rs p
    go false m = (m, p)

-- no two neighbours in the packed runs of rows could be one run
pub pack_packed : (rows : List Row) → IsPacked (pack rows)
pack_packed [] = tt
pack_packed (row ∷ rows) = put_packed row (pack rows) (pack_packed rows)

-- the run that takes a row could be one with the runs that this row could be one with
longer_joins : (row : Row) (r : Run) → joins (run_of row) r ≡ true → (q : Run) → joins q (longer r) ≡ joins q (run_of row)
longer_joins (Release j kept) r m q = cc
longer_joins (Tick i More) (run.Ticks j More n) m q = (any_length q (n + 1) 1).0 j ∙ ap (λ k. joins q (run.Ticks k More 1)) (sym (job_eq i j m))
longer_joins (Tick i how) r m q = cc
longer_joins Idle (run.Idles n) m q = (any_length q (n + 1) 1).1
longer_joins Idle r m q = cc

-- a run that could not be one with a row stays apart from packed runs that begin with this row
before_put : (r : Run) (row : Row) (rs : List Run) → joins r (run_of row) ≡ false → IsPacked rs → IsPacked (r ∷ put_before row rs)
before_put r row [] apart p = (apart, tt)
before_put r row (s ∷ rs) apart p = go (joins (run_of row) s) refl
  where
    go : (b : Bool) → joins (run_of row) s ≡ b → IsPacked (r ∷ cond b (longer s ∷ rs) (run_of row ∷ s ∷ rs))
    go true m = (longer_joins row s m r ∙ apart, longer_packed s rs p)
    go false m = (apart, (m, p))

-- a run stays apart from the packed runs of rows if it could not be one with the first of these rows
apart_from : (r : Run) (row : Row) (rest : List Row) → ((s : Run) → joins r s ≡ joins (run_of row) s) → StartsApart row rest → IsPacked (r ∷ pack rest)
apart_from r row [] same apart = tt
apart_from r row (next ∷ rest) same apart = before_put r next (pack rest) (same (run_of next) ∙ apart next refl) (pack_packed rest)

-- the rows are the first of them and those after it
first_row : (row : Row) (rows : List Row) (d : Row) → 1 ≤ length rows → get_or rows 0 d ≡ row → row ∷ drop 1 rows ≡ rows
first_row row [] d some is = absurd (omega (arith, some))
first_row row (x ∷ rows) d some is = ap (λ y. y ∷ rows) (sym is)

-- a run that stays apart from the packed runs of the rest is the first packed run of its rows and the rest
first_run : (r : Run) (rest rows : List Row) → rows_of r ++ rest ≡ rows → IsRun r → IsPacked (r ∷ pack rest) → pack rows ≡ r ∷ pack rest
first_run r rest rows all v p =
    ap pack (sym all ∙ ap (λ xs. rows_of r ++ xs) (sym (expand-pack rest))) ∙ pack-expand (r ∷ pack rest) (v, pack-runs rest) p

-- equal rows, and the rest
repeated : (row : Row) (more : ℕ) (rest rows : List Row) (d : Row) → 1 ≤ length rows → get_or rows 0 d ≡ row → drop 1 rows ≡ replicate more row ++ rest
    → replicate (1 + more) row ++ rest ≡ rows
repeated row more rest rows d some is again =
    let next : 1 + more ≡ suc more = omega arith in
    ap (λ (k : ℕ). replicate k row ++ rest) next ∙ (ap (λ xs. row ∷ xs) (sym again) ∙ first_row row rows d some is)

-- ticks of a job that goes on after each are one run
pub ticks_first : (j : JobId) (how : How) (more : ℕ) (rest rows : List Row) (d : Row) → how ≡ More → 1 ≤ length rows → get_or rows 0 d ≡ Tick j how
    → drop 1 rows ≡ replicate more (Tick j how) ++ rest → StartsApart (Tick j how) rest → pack rows ≡ run.Ticks j how (1 + more) ∷ pack rest
ticks_first j More more rest rows d goes_on some is again apart =
    first_run (run.Ticks j More (1 + more)) rest rows (repeated (Tick j More) more rest rows d some is again) (omega arith, λ two. refl)
    (apart_from (run.Ticks j More (1 + more)) (Tick j More) rest same apart)
  where
    same : (s : Run) → joins (run.Ticks j More (1 + more)) s ≡ joins (run.Ticks j More 1) s
    same (run.Ticks i More n) = refl
    same s = refl
ticks_first j how more rest rows d goes_on some is again apart = absurd (cc)

-- idle ticks are one run
pub idles_first : (more : ℕ) (rest rows : List Row) (d : Row) → 1 ≤ length rows → get_or rows 0 d ≡ Idle → drop 1 rows ≡ replicate more Idle ++ rest
    → StartsApart Idle rest → pack rows ≡ run.Idles (1 + more) ∷ pack rest
idles_first more rest rows d some is again apart =
    first_run (run.Idles (1 + more)) rest rows (repeated Idle more rest rows d some is again) (omega arith)
    (apart_from (run.Idles (1 + more)) Idle rest (λ s. refl) apart)

-- a run has no more ticks than rows
length_le : (r : Run) → length_of r ≤ size r
length_le (run.Release j kept) = omega arith
length_le (run.Ticks j how n) = omega arith
length_le (run.Idles n) = omega arith

-- the rows are those of the first packed run, and the rest
rows_split : (r : Run) (rest rows : List Row) → pack rows ≡ r ∷ pack rest → length rows ≡ size r + length rest
rows_split r rest rows first =
    let all : rows ≡ rows_of r ++ rest = sym (expand-pack rows) ∙ (ap expand first ∙ ap (λ xs. rows_of r ++ xs) (expand-pack rest)) in
    let long : length rows ≡ length (rows_of r ++ rest) = ap length all in
    let both : length (rows_of r ++ rest) ≡ length (rows_of r) + length rest = length-append (rows_of r) rest in
    let own : length (rows_of r) ≡ size r = length-replicate (size r) (row_of r) in
    omega (arith, long, both, own)

-- the first packed run of rows is valid
first_valid : (r : Run) (rest rows : List Row) → pack rows ≡ r ∷ pack rest → IsRun r
first_valid r rest rows first = (subst (AllByRecursion IsRun) first (pack-runs rows)).0

-- fewer rows are left after the first packed run
pub fewer_left : (r : Run) (rest rows : List Row) → pack rows ≡ r ∷ pack rest → length rest < length rows
fewer_left r rest rows first =
    let some = some_rows r (first_valid r rest rows first) in
    let split = rows_split r rest rows first in
    omega (arith, split, some)

-- the first packed run has no more ticks than it has rows
pub ticks_left : (r : Run) (rest rows : List Row) → pack rows ≡ r ∷ pack rest → length_of r + length rest ≤ length rows
ticks_left r rest rows first =
    let split = rows_split r rest rows first in
    let few = length_le r in
    omega (arith, split, few)

-- runs with one more run, before the packed runs of the rest
pub one_run_more : (before now : List Run) (r : Run) (after rest : List Row) (all : List Run) → pack rest ≡ r ∷ pack after → now ≡ before ++ r ∷ [] → before ++ pack rest ≡ all
    → now ++ pack after ≡ all
one_run_more before now r after rest all first is was =
    ap (λ xs. xs ++ pack after) is ∙ (append_assoc before (r ∷ []) (pack after) ∙ (ap (λ xs. before ++ xs) (sym first) ∙ was))

-- what holds of each packed run holds of the first, and of those of the rest
pub first_of : (P : Run → Type 0) (r : Run) (rest rows : List Row) → pack rows ≡ r ∷ pack rest → All P (pack rows) → P r × All P (pack rest)
first_of P r rest rows first all =
    let each = recursion_from_All P (r ∷ pack rest) (subst (All P) first all) in
    (each.0, All-from_recursion P (pack rest) each.1)

-- the packed runs of rows of a set are of the set
pub packed_of_set : (set : List Task) (rows : List Row) → All (IsOfSet set) rows → All (IsRunOfSet set) (pack rows)
packed_of_set set rows each = of_rows (IsOfSet set) (pack rows) rows (pack-runs rows) (expand-pack rows) each

-- the text with the line of the first packed run
pub line_more : (set : List Task) (tick next : ℕ) (r : Run) (rest rows : List Row) (out longer text : List ℕ) → pack rows ≡ r ∷ pack rest → next ≡ tick + length_of r
    → longer ≡ out ++ run_line set tick r → out ++ lines_from set tick (pack rows) ≡ text
    → longer ++ lines_from set next (pack rest) ≡ text
line_more set tick next r rest rows out longer text first ticks more was = rw (more, append_assoc, ticks) (rw first at was)
