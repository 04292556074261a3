-- A run added at the end of packed runs.
use Rattle.std.proofs.Common.{suc, zero, All, ◌≡◌, ℕ, ◌+◌, ◌-◌, ◌≤◌, ◌<◌, false, List, [], ◌∷◌, ◌++◌, Some, None, length, take, get_or, slice_set, length-set, replicate, inl, inr, refl, sym, ap, ◌∙◌, subst, arith, append_assoc}
use Rattle.std.proofs.lemmas.Bool.{cases_Bool}
use Rattle.std.proofs.lemmas.List.{append-nil, take_all, take_more, take_more_set, replicate-append-replicate}
use Rattle.std.proofs.lemmas.List.Elements.{All-from_recursion, recursion_from_All}
use Rattle.std.proofs.lemmas.Option.{slice_get_within, slice_get-get_or, get_or_from_slice_get, option_and_then_some}
use Rattle.std.specs.List.{AllByRecursion}
use Rattle.std.specs.Prelude.{slice_get, option_and_then}
use Rattle.mc_task.specs.declared.task.JobId.{JobId}
use Rattle.mc_model.specs.declared.row.How.TheVariants.{More, Done, Stop, Over}
use Rattle.mc_model.specs.declared.row.Row.TheVariants.{Tick, Idle}
use Rattle.mc_model.specs.declared.run.Run.{Run}
use Rattle.mc_model.specs.declared.run.Run.TheVariants as run
use Rattle.mc_model.specs.declared.row.Row.{Row}
use Rattle.mc_model.specs.Rows.{same_job, ticks}
use Rattle.mc_model.specs.Sums.{total}
use Rattle.mc_model.specs.Runs.{row_of, size, rows_of, expand, length_of, joins, IsRun, AreRuns}
use Rattle.mc_model.proofs.Jobs.{job_eq}
use Rattle.mc_model.proofs.Runs.{some_rows, all_expand, expand-more, ticks-expand}
use Rattle.trace_format.specs.Packing.{ArePacked, joined, with_last}
use Rattle.trace_format.proofs.TickLemmas.{total-one, ticks-fit}

-- two runs joined into one: it has the rows of both, is valid, and joins what the first of them joins
record JoinedAs (r s both : Run) : Type 0 where
  rows : rows_of both ≡ rows_of r ++ rows_of s
  is_run : IsRun r → IsRun both
  same : (q : Run) → joins q both ≡ joins q r

-- whether a run joins another does not depend on that one's length
pub any_length : (q : Run) (m n : ℕ) → ((j : JobId) → joins q (run.Ticks j More m) ≡ joins q (run.Ticks j More n)) × (joins q (run.Idles m) ≡ joins q (run.Idles n))
any_length (run.Release i kept) m n = ((λ j. refl), refl)
any_length (run.Ticks i More k) m n = ((λ j. refl), refl)
any_length (run.Ticks i Done k) m n = ((λ j. refl), refl)
any_length (run.Ticks i Stop k) m n = ((λ j. refl), refl)
any_length (run.Ticks i Over k) m n = ((λ j. refl), refl)
any_length (run.Idles k) m n = ((λ j. refl), refl)

joined_as : (r s both : Run) → joined r s ≡ Some both → JoinedAs r s both
joined_as (run.Idles m) (run.Idles n) both h =
    let is : run.Idles (m + n) ≡ both = cc in
    subst (JoinedAs (run.Idles m) (run.Idles n)) is
    (record { rows = sym (replicate-append-replicate m n Idle); is_run = λ v. omega arith; same = λ q. (any_length q (m + n) m).1 })
joined_as (run.Ticks i More m) (run.Ticks j More n) both h = elim (cases_Bool (same_job i j)) [
  | inl yes_job ↦
      let some = rw yes_job at h in
      let is : run.Ticks i More (m + n) ≡ both = cc in
      let rows : replicate (m + n) (Tick i More) ≡ replicate m (Tick i More) ++ replicate n (Tick j More) =
      rw (← job_eq i j yes_job) (sym (replicate-append-replicate m n (Tick i More))) in
      subst (JoinedAs (run.Ticks i More m) (run.Ticks j More n)) is
      (record { rows = rows; is_run = λ v. (omega (arith, v.0), λ two. refl); same = λ q. (any_length q (m + n) m).0 i })
  | inr no_job ↦ (let none = rw no_job at h in absurd (cc))
]
joined_as r s both h = absurd (cc)

-- if two runs are not joined, they could not be one run
joined_none : (r s : Run) → joined r s ≡ None → joins r s ≡ false
joined_none (run.Idles m) (run.Idles n) h = cc
joined_none (run.Ticks i More m) (run.Ticks j More n) h = elim (cases_Bool (same_job i j)) [ inl yes_job ↦ (let some = rw yes_job at h in cc) | inr no_job ↦ no_job ]
joined_none r s h = refl

-- a non-empty list is its start and its last element
split_last : {X : Type 0} (xs : List X) (l : X) → slice_get xs (length xs - 1) ≡ Some l → xs ≡ take (length xs - 1) xs ++ l ∷ []
split_last xs l h =
    let some : length xs - 1 < length xs = slice_get_within xs (length xs - 1) l h in
    let n : length xs - 1 + 1 ≡ length xs = omega (arith, some) in
    sym (take_all (length xs - 1 + 1) xs (omega (arith, n)))
    ∙ (take_more xs (length xs - 1) l some ∙ ap (λ x. take (length xs - 1) xs ++ x ∷ []) (get_or_from_slice_get xs (length xs - 1) l l h))

-- a list with another last element is its start and that element
set_last : {X : Type 0} (xs : List X) (y : X) → 1 ≤ length xs → slice_set xs (length xs - 1) y ≡ take (length xs - 1) xs ++ y ∷ []
set_last xs y h =
    sym (take_all (length xs - 1 + 1) (slice_set xs (length xs - 1) y) (omega (arith, h, length-set xs (length xs - 1) y)))
    ∙ take_more_set xs (length xs - 1) y (omega (arith, h))

-- packed runs stay packed with others in place of the last, if the first of these joins what the last joins
packed_end : (ts : List Run) (l m : Run) (ms : List Run) → ((q : Run) → joins q m ≡ joins q l) → (IsRun l → ArePacked (m ∷ ms)) → ArePacked (ts ++ l ∷ [])
    → ArePacked (ts ++ m ∷ ms)
packed_end [] l m ms same end p = end p.each.0
packed_end (t ∷ []) l m ms same end p = let rest = end p.each.1.0 in record { each = (p.each.0, rest.each); packed = (same t ∙ p.packed.0, rest.packed) }
packed_end (t ∷ u ∷ ts) l m ms same end p =
    let rest = packed_end (u ∷ ts) l m ms same end (record { each = p.each.1; packed = p.packed.1 }) in
    record { each = (p.each.0, rest.each); packed = (p.packed.0, rest.packed) }

-- packed runs stay packed if the last takes one more run
pub taken : (rs new : List Run) (s both : Run) → ArePacked rs → with_last rs s ≡ Some both → new ≡ slice_set rs (length rs - 1) both
    → (expand new ≡ expand rs ++ rows_of s) × ArePacked new
taken rs new s both p h is = option_and_then_some (λ l. joined l s) (slice_get rs (length rs - 1)) both h (λ l at j.
    let f = joined_as l s both j in
    let ts : List Run = take (length rs - 1) rs in
    let old : rs ≡ ts ++ l ∷ [] = split_last rs l at in
    let now : new ≡ ts ++ both ∷ [] = is ∙ set_last rs both (omega (arith, slice_get_within rs (length rs - 1) l at)) in
    let rows : expand rs ≡ expand ts ++ rows_of l = ap expand old ∙ expand-more ts l in
    let end : IsRun l → ArePacked (both ∷ []) = λ is_run. record { each = (f.is_run is_run, tt); packed = tt } in (
      rw (now, expand-more ts both, f.rows, rows) (sym (append_assoc (expand ts) (rows_of l) (rows_of s))),
      rw now (packed_end ts l both [] f.same end (subst ArePacked old p)),
    ))

-- packed runs stay packed if a run that the last cannot take is added
pub added : (rs new : List Run) (s : Run) → ArePacked rs → IsRun s → with_last rs s ≡ None → new ≡ rs ++ s ∷ []
    → (expand new ≡ expand rs ++ rows_of s) × ArePacked new
added [] new s p v h is = (ap expand is ∙ append-nil (rows_of s), rw is (record { each = (v, tt); packed = tt }))
added (r ∷ rs) new s p v h is =
    let l : Run = get_or (r ∷ rs) (length (r ∷ rs) - 1) r in
    let at : slice_get (r ∷ rs) (length (r ∷ rs) - 1) ≡ Some l = slice_get-get_or (r ∷ rs) (length (r ∷ rs) - 1) r (omega arith) in
    let apart : joined l s ≡ None = sym (ap (option_and_then (λ last. joined last s)) at) ∙ h in
    let ts : List Run = take (length (r ∷ rs) - 1) (r ∷ rs) in
    let old : r ∷ rs ≡ ts ++ l ∷ [] = split_last (r ∷ rs) l at in
    let now : new ≡ ts ++ l ∷ s ∷ [] = is ∙ (ap (λ xs. xs ++ s ∷ []) old ∙ append_assoc ts (l ∷ []) (s ∷ [])) in
    let end : IsRun l → ArePacked (l ∷ s ∷ []) = λ is_run. record { each = (is_run, (v, tt)); packed = (joined_none l s apart, tt) } in
    (ap expand is ∙ expand-more (r ∷ rs) s, rw now (packed_end ts l l (s ∷ []) (λ q. refl) end (subst ArePacked old p)))

-- no run has more ticks than all runs together
pub last_short : (rs : List Run) (l : Run) → slice_get rs (length rs - 1) ≡ Some l → length_of l ≤ total length_of rs
last_short rs l at =
    let all = ap (total length_of) (split_last rs l at) ∙ total-one (take (length rs - 1) rs) l in
    omega (arith, all)

pub short_runs : (merged runs : List Run) (i : ℕ) (d : Run) → i < length runs → AreRuns runs → expand merged ≡ expand (take i runs) → total length_of merged + length_of (get_or runs i d) ≤ 100000000
short_runs merged runs i d h v e =
    ticks-fit runs i (total length_of merged) d h v (sym (ticks-expand merged) ∙ (ap ticks e ∙ ticks-expand (take i runs)))

pub all_runs : (merged runs : List Run) (i : ℕ) → length runs ≤ i → expand merged ≡ expand (take i runs) → expand merged ≡ expand runs
all_runs merged runs i h e = e ∙ ap expand (take_all i runs h)

-- what holds of each row of a run, and of those after it, holds of the row that it repeats, and of those
-- after it
row_and_rest : (P : Row → Type 0) (n : ℕ) (x : Row) (ys : List Row) → 1 ≤ n → AllByRecursion P (replicate n x ++ ys) → P x × AllByRecursion P ys
row_and_rest P zero x ys h a = absurd (omega (arith, h))
row_and_rest P (suc zero) x ys h a = a
row_and_rest P (suc (suc n)) x ys h a = row_and_rest P (suc n) x ys (omega arith) a.1

each_of_rows : (P : Row → Type 0) (runs : List Run) → AllByRecursion IsRun runs → AllByRecursion P (expand runs) → AllByRecursion (λ r. P (row_of r)) runs
each_of_rows P [] v a = tt
each_of_rows P (r ∷ runs) v a = let p = row_and_rest P (size r) (row_of r) (expand runs) (some_rows r v.0) a in (p.0, each_of_rows P runs v.1 p.1)

pub of_rows : (P : Row → Type 0) (runs : List Run) (rows : List Row) → AllByRecursion IsRun runs → expand runs ≡ rows → All P rows → All (λ r. P (row_of r)) runs
of_rows P runs rows v e a = All-from_recursion (λ r. P (row_of r)) runs (each_of_rows P runs v (recursion_from_All P (expand runs) (subst (All P) (sym e) a)))

-- a property of the row of each run passes to other runs with the same rows
pub of_runs : (P : Row → Type 0) (merged runs : List Run) → AllByRecursion IsRun merged → expand merged ≡ expand runs → All (λ r. P (row_of r)) runs → All (λ r. P (row_of r)) merged
of_runs P merged runs v e a = of_rows P merged (expand runs) v e (all_expand P runs (recursion_from_All (λ r. P (row_of r)) runs a))
