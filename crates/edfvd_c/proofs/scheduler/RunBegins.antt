-- The runs of equal rows of a schedule, by the rows with which they begin.
use Rattle.std.proofs.Common.{◌≡◌, ℕ, zero, suc, ◌+◌, ◌-◌, ◌^◌, ◌<◌, ◌≤◌, ◌==◌, ◌&&◌, Bool, true, false, inl, inr, List, [], ◌∷◌, ◌++◌, Some, length, map, replicate, get_or, refl, sym, ap, ap₂, subst, ◌∙◌, arith}
use Rattle.std.specs.Prelude.{reverse, slice_get, min, option_map, nat_lt}
use Rattle.std.proofs.lemmas.Bool.{cases_eq, cases_lt, and_parts, eqb-true, lt-ltb}
use Rattle.std.proofs.lemmas.List.{length-reverse, length-append, reverse-append}
use Rattle.std.proofs.lemmas.Option.{same_Some, slice_get_within, get_or_from_slice_get, slice_get-map}
use Rattle.mc_model.specs.declared.row.Row.{Row}
use Rattle.mc_model.specs.declared.row.Row.TheVariants.{Release, Tick, Idle}
use Rattle.mc_model.specs.declared.row.How.TheVariants as how
use Rattle.mc_model.proofs.Booleans.{eqb-refl}
use Rattle.edfvd_c.specs.declared.scheduler.latest.RunBegin.{RunBegin}
use Rattle.edfvd_c.specs.declared.row.CRow.{CRow}
use Rattle.edfvd_c.specs.Row.{row_numbers, row_in}
use Rattle.edfvd_c.specs.Scheduler.Latest.{same_row, is_again, begins, latest_from, AreEqualFrom}
use Rattle.edfvd_c.specs.Scheduler.Slots.{IsNewest}
use Rattle.edfvd_c.proofs.scheduler.Slots.{slice_get_left, slice_get_last}

-- a row is the one that its numbers stand for
row_again : (r : Row) → row_in (row_numbers r) ≡ Some r
row_again (Release j true) = refl
row_again (Release j false) = refl
row_again (Tick j how.More) = refl
row_again (Tick j how.Done) = refl
row_again (Tick j how.Stop) = refl
row_again (Tick j how.Over) = refl
row_again Idle = refl

-- the numbers of rows are equal if each is
numbers_eq : (a b : CRow) → a.event ≡ b.event → a.task ≡ b.task → a.count ≡ b.count → a ≡ b
numbers_eq a b e t c =
    ap₂ {C = CRow} (λ (x y : ℕ). record { event = x; task = y; count = a.count }) e t
    ∙ ap {B = CRow} (λ (z : ℕ). record { event = b.event; task = b.task; count = z }) c

-- rows whose numbers are equal are equal
pub same_row_is : (a b : Row) → same_row a b ≡ true → a ≡ b
same_row_is a b e =
    let p = and_parts ((row_numbers a).event == (row_numbers b).event) (((row_numbers a).task == (row_numbers b).task) && ((row_numbers a).count == (row_numbers b).count)) e in
    let q = and_parts ((row_numbers a).task == (row_numbers b).task) ((row_numbers a).count == (row_numbers b).count) p.1 in
    let numbers : row_numbers a ≡ row_numbers b = numbers_eq (row_numbers a) (row_numbers b) (eqb-true _ _ p.0) (eqb-true _ _ q.0) (eqb-true _ _ q.1) in
    same_Some a b (sym (row_again a) ∙ (ap row_in numbers ∙ row_again b))

-- a row is equal to itself
pub same_row_refl : (a : Row) → same_row a a ≡ true
same_row_refl a = rw (eqb-refl (row_numbers a).event, eqb-refl (row_numbers a).task, eqb-refl (row_numbers a).count) refl

-- the numbers of the rows with which runs begin, the newest first
abbrev pub numbers : List Row → List ℕ
numbers h = map (λ (b : RunBegin). b.number) (begins h)

-- the number of the row after the run whose beginning is this many before the latest
abbrev pub end_of : List Row → ℕ → ℕ
end_of h back = get_or (length h ∷ numbers h) back 0

-- the latest run is one of the newest row
pub newest_begin : (x : Row) (g : List Row) (b : RunBegin) → slice_get (begins (x ∷ g)) 0 ≡ Some b → b.row ≡ x
newest_begin x [] b e = sym (ap (λ (y : RunBegin). y.row) (same_Some (record { row = x; number = 0 }) b e))
newest_begin x (y ∷ g) b e = go (newest_begin y g b) (same_row y x) refl
  where
    go : (slice_get (begins (y ∷ g)) 0 ≡ Some b → b.row ≡ y) → (t : Bool) → same_row y x ≡ t → b.row ≡ x
    go before true m = before (rw m at e) ∙ same_row_is y x m
    go before false m = sym (ap (λ (z : RunBegin). z.row) (same_Some (record { row = x; number = length (y ∷ g) }) b (rw m at e)))

-- a schedule with rows has a run
pub some_begin : (x : Row) (g : List Row) → 1 ≤ length (begins (x ∷ g))
some_begin x [] = omega arith
some_begin x (y ∷ g) = go (some_begin y g) (same_row y x) refl
  where
    go : 1 ≤ length (begins (y ∷ g)) → (t : Bool) → same_row y x ≡ t → 1 ≤ length (begins (x ∷ y ∷ g))
    go before true m = rw m before
    go before false m = rw m (omega arith)

-- there are no more runs than rows
pub few_begins : (h : List Row) → length (begins h) ≤ length h
few_begins [] = omega arith
few_begins (x ∷ h) = go (few_begins h) (is_again x h) refl
  where
    go : length (begins h) ≤ length h → (t : Bool) → is_again x h ≡ t → length (begins (x ∷ h)) ≤ length (x ∷ h)
    go before true m = rw m (omega (arith, before))
    go before false m = rw m (omega (arith, before))

-- each run begins with a row that is there
pub number_below : (x : Row) (g : List Row) (k : ℕ) → get_or (numbers (x ∷ g)) k 0 ≤ length g
number_below x [] zero = omega arith
number_below x [] (suc k) = omega arith
number_below x (y ∷ g) k = go (λ i. number_below y g i) (same_row y x) refl
  where
    new : ((i : ℕ) → get_or (numbers (y ∷ g)) i 0 ≤ length g) → (i : ℕ) → get_or (length (y ∷ g) ∷ numbers (y ∷ g)) i 0 ≤ length (y ∷ g)
    new before zero = omega arith
    new before (suc i) = omega (arith, before i)

    go : ((i : ℕ) → get_or (numbers (y ∷ g)) i 0 ≤ length g) → (t : Bool) → same_row y x ≡ t → get_or (numbers (x ∷ y ∷ g)) k 0 ≤ length (y ∷ g)
    go before true m = rw m (omega (arith, before k))
    go before false m = rw m (new before k)

-- an element after the first
get_or_after : (a : ℕ) (xs : List ℕ) (k : ℕ) → 1 ≤ k → get_or (a ∷ xs) k 0 ≡ get_or xs (k - 1) 0
get_or_after a xs zero h = absurd (omega (arith, h))
get_or_after a xs (suc k) h = let same : suc k - 1 ≡ k = omega arith in rw same refl

-- the oldest run begins with row number 0
pub oldest_zero : (x : Row) (g : List Row) → get_or (numbers (x ∷ g)) (length (begins (x ∷ g)) - 1) 0 ≡ 0
oldest_zero x [] = refl
oldest_zero x (y ∷ g) = go (oldest_zero y g) (same_row y x) refl
  where
    go : get_or (numbers (y ∷ g)) (length (begins (y ∷ g)) - 1) 0 ≡ 0 → (t : Bool) → same_row y x ≡ t → get_or (numbers (x ∷ y ∷ g)) (length (begins (x ∷ y ∷ g)) - 1) 0 ≡ 0
    go before true m = rw m before
    go before false m =
        let last : suc (length (begins (y ∷ g))) - 1 ≡ length (begins (y ∷ g)) = omega arith in
        rw (m, last) (get_or_after (length (y ∷ g)) (numbers (y ∷ g)) (length (begins (y ∷ g))) (some_begin y g) ∙ before)

-- in these rows, the oldest first, those from one number up to another are this row, and the next is not
pub record IsRun (rows : List Row) (row : Row) (from end : ℕ) : Type 0 where
  pub equal : (j : ℕ) → from ≤ j → j < end → slice_get rows j ≡ Some row
  pub ends : slice_get rows end ≡ Some row → ⊥

-- one more row changes no run that ended before
longer : (rows : List Row) (r row : Row) (from end : ℕ) → IsRun rows row from end → end < length rows → IsRun (rows ++ r ∷ []) row from end
longer rows r row from end i below = record {
  equal = λ j f t. slice_get_left rows r j (omega (arith, t, below)) ∙ i.equal j f t;
  ends = λ e. i.ends (sym (slice_get_left rows r end below) ∙ e);
}

-- after the last row there is none
no_more : (rows : List Row) (r row : Row) → slice_get (rows ++ r ∷ []) (suc (length rows)) ≡ Some row → ⊥
no_more rows r row e = omega (arith, slice_get_within (rows ++ r ∷ []) (suc (length rows)) row e, length-append rows (r ∷ []))

-- the last run goes on with an equal row
goes_on : (rows : List Row) (r row : Row) (from : ℕ) → IsRun rows row from (length rows) → row ≡ r → IsRun (rows ++ r ∷ []) row from (suc (length rows))
goes_on rows r row from i same = record {
  equal = λ j f t. elim (cases_eq j (length rows)) [
    | inl last ↦ subst (λ (n : ℕ). slice_get (rows ++ r ∷ []) n ≡ Some row) (sym last) (slice_get_last rows r ∙ ap (λ (x : Row). Some x) (sym same))
    | inr other ↦ let before : j < length rows = omega (arith, t, other) in slice_get_left rows r j before ∙ i.equal j f before
  ];
  ends = no_more rows r row;
}

-- the last run ends before a row that differs
stops : (rows : List Row) (r row : Row) (from : ℕ) → IsRun rows row from (length rows) → (row ≡ r → ⊥) → IsRun (rows ++ r ∷ []) row from (length rows)
stops rows r row from i other = record {
  equal = λ j f t. slice_get_left rows r j t ∙ i.equal j f t;
  ends = λ e. other (sym (same_Some r row (sym (slice_get_last rows r) ∙ e)));
}

-- a row is a run
begins_run : (rows : List Row) (r : Row) → IsRun (rows ++ r ∷ []) r (length rows) (suc (length rows))
begins_run rows r = record {
  equal = λ j f t. let last : j ≡ length rows = omega (arith, f, t) in subst (λ (n : ℕ). slice_get (rows ++ r ∷ []) n ≡ Some r) (sym last) (slice_get_last rows r);
  ends = no_more rows r r;
}

-- the runs after one more row that equals the newest one: the latest goes on, and the others are as before
again_run : (r : Row) (g : List Row) (k : ℕ) (b : RunBegin) → is_again r g ≡ true → slice_get (begins g) k ≡ Some b → IsRun (reverse g) b.row b.number (end_of g k)
    → IsRun (reverse g ++ r ∷ []) b.row b.number (get_or (suc (length g) ∷ numbers g) k 0)
again_run r [] k b m e i = absurd (omega (arith, slice_get_within (begins []) k b e))
again_run r (x ∷ g) zero b m e i =
    let len : length (reverse (x ∷ g)) ≡ length (x ∷ g) = length-reverse (x ∷ g) in
    let before = subst (λ (n : ℕ). IsRun (reverse (x ∷ g)) b.row b.number n) (sym len) i in
    subst (λ (n : ℕ). IsRun (reverse (x ∷ g) ++ r ∷ []) b.row b.number (suc n)) len
    (goes_on (reverse (x ∷ g)) r b.row b.number before (newest_begin x g b e ∙ same_row_is x r m))
again_run r (x ∷ g) (suc k) b m e i =
    longer (reverse (x ∷ g)) r b.row b.number _ i (omega (arith, number_below x g k, length-reverse (x ∷ g)))

-- the runs after one more row that differs from the newest one: it begins a run, and the others are as before
new_run : (r : Row) (g : List Row) (k : ℕ) (b : RunBegin) → is_again r g ≡ false → slice_get (begins g) k ≡ Some b → IsRun (reverse g) b.row b.number (end_of g k)
    → IsRun (reverse g ++ r ∷ []) b.row b.number (end_of g k)
new_run r [] k b m e i = absurd (omega (arith, slice_get_within (begins []) k b e))
new_run r (x ∷ g) zero b m e i =
    let len : length (reverse (x ∷ g)) ≡ length (x ∷ g) = length-reverse (x ∷ g) in
    let before = subst (λ (n : ℕ). IsRun (reverse (x ∷ g)) b.row b.number n) (sym len) i in
    let other : b.row ≡ r → ⊥ = λ same. absurd (let t : true ≡ false = sym (subst (λ (y : Row). same_row x y ≡ true) (sym (newest_begin x g b e) ∙ same) (same_row_refl x)) ∙ m in cc) in
    subst (λ (n : ℕ). IsRun (reverse (x ∷ g) ++ r ∷ []) b.row b.number n) len (stops (reverse (x ∷ g)) r b.row b.number before other)
new_run r (x ∷ g) (suc k) b m e i =
    longer (reverse (x ∷ g)) r b.row b.number _ i (omega (arith, number_below x g k, length-reverse (x ∷ g)))

-- the row that begins a run, as one
first_run : (r : Row) (g : List Row) (b : RunBegin) → record { row = r; number = length g } ≡ b → IsRun (reverse g ++ r ∷ []) b.row b.number (suc (length g))
first_run r g b e =
    subst (λ (c : RunBegin). IsRun (reverse g ++ r ∷ []) c.row c.number (suc (length g))) e
    (subst (λ (n : ℕ). IsRun (reverse g ++ r ∷ []) r n (suc n)) (length-reverse g) (begins_run (reverse g) r))

-- each run is one of the rows
pub run_is : (h : List Row) (k : ℕ) (b : RunBegin) → slice_get (begins h) k ≡ Some b → IsRun (reverse h) b.row b.number (end_of h k)
run_is [] k b e = absurd (omega (arith, slice_get_within (begins []) k b e))
run_is (r ∷ g) k b e =
    subst (λ (rows : List Row). IsRun rows b.row b.number (end_of (r ∷ g) k)) (sym (reverse-append (r ∷ []) g)) (go (run_is g) k (is_again r g) refl e)
  where
    go : ((i : ℕ) (c : RunBegin) → slice_get (begins g) i ≡ Some c → IsRun (reverse g) c.row c.number (end_of g i))
        → (i : ℕ) (t : Bool) → is_again r g ≡ t → slice_get (begins (r ∷ g)) i ≡ Some b → IsRun (reverse g ++ r ∷ []) b.row b.number (end_of (r ∷ g) i)
    go before i true m f = rw m (let there : slice_get (begins g) i ≡ Some b = rw m at f in again_run r g i b m there (before i b there))
    go before zero false m f = first_run r g b (same_Some (record { row = r; number = length g }) b (rw m at f))
    go before (suc i) false m f = rw m (let there : slice_get (begins g) i ≡ Some b = rw m at f in new_run r g i b m there (before i b there))

-- a row of a run, and how many equal rows begin with it
pub found_row : (h : List Row) (k number times : ℕ) (b : RunBegin) → slice_get (begins h) k ≡ Some b → b.number ≤ number → number < end_of h k
    → (end_of h k - number < 2 ^ 32 → times ≡ end_of h k - number) → (2 ^ 32 ≤ end_of h k - number → times ≡ 2 ^ 32 - 1)
    → (slice_get (reverse h) number ≡ Some b.row) × AreEqualFrom (reverse h) number times
found_row h k number times b e from before few many =
    let run = run_is h k b e in
    let end : ℕ = end_of h k in
    let here : slice_get (reverse h) number ≡ Some b.row = run.equal number from before in
    elim (cases_lt (end - number) (2 ^ 32)) [
      | inl small ↦
          let is : times ≡ end - number = few small in
          let next : number + times ≡ end = omega (arith, is, before) in (
            here,
            record {
              some = omega (arith, is, before);
              equal = λ i t. run.equal (number + i) (omega (arith, from)) (omega (arith, is, t, before)) ∙ sym here;
              longest = inr (λ same. run.ends (subst (λ (n : ℕ). slice_get (reverse h) n ≡ Some b.row) next (same ∙ here)));
            },
          )
      | inr large ↦
          let is : times ≡ 2 ^ 32 - 1 = many large in (
            here,
            record {
              some = omega (arith, is);
              equal = λ i t. run.equal (number + i) (omega (arith, from)) (omega (arith, is, t, before, large)) ∙ sym here;
              longest = inl is;
            },
          )
    ]

-- after the runs that are kept no row is left that is kept
pub none_left : (h : List Row) (number : ℕ) → number < end_of h (min (length (begins h)) 256) → latest_from h ≤ number → ⊥
none_left [] number before from = omega (arith, before)
none_left (x ∷ g) number before from = elim (cases_lt (length (begins (x ∷ g))) 256) [
  | inl few ↦
      let kept : min (length (begins (x ∷ g))) 256 ≡ length (begins (x ∷ g)) = omega (arith, few) in
      let end : end_of (x ∷ g) (min (length (begins (x ∷ g))) 256) ≡ 0 =
      ap (end_of (x ∷ g)) kept ∙ (get_or_after (length (x ∷ g)) (numbers (x ∷ g)) (length (begins (x ∷ g))) (some_begin x g) ∙ oldest_zero x g) in
      omega (arith, before, end)
  | inr many ↦
      let kept : min (length (begins (x ∷ g))) 256 ≡ 256 = omega (arith, many) in
      let end : end_of (x ∷ g) (min (length (begins (x ∷ g))) 256) ≡ latest_from (x ∷ g) = ap (end_of (x ∷ g)) kept in
      omega (arith, before, end, from)
]

-- after the newest row the row of the newest run is asked again
again_after : (n : ℕ) (row : Row) (h : List Row) → is_again row h ≡ true → is_again row (replicate n row ++ h) ≡ true
again_after zero row h m = m
again_after (suc n) row h m = same_row_refl row

-- equal rows after the newest one begin no run
pub begins_again : (n : ℕ) (row : Row) (h : List Row) → is_again row h ≡ true → begins (replicate n row ++ h) ≡ begins h
begins_again zero row h m = refl
begins_again (suc n) row h m = rw (again_after n row h m) (begins_again n row h m)

-- equal rows that differ from the newest one begin one run
pub begins_new : (n : ℕ) (row : Row) (h : List Row) → is_again row h ≡ false → begins (replicate (suc n) row ++ h) ≡ record { row = row; number = length h } ∷ begins h
begins_new zero row h m = rw m refl
begins_new (suc n) row h m = rw (same_row_refl row) (begins_new n row h m)

-- the oldest row that is kept is there, if there is a row
pub latest_below : (h : List Row) → latest_from h ≤ length h
latest_below [] = omega arith
latest_below (x ∷ g) = omega (arith, number_below x g 255)

-- a row that equals the newest one, which is kept, is there again exactly if there is a run
pub again_newest : (row newest : Row) (h : List Row) → IsNewest newest h → same_row newest row ≡ true → nat_lt 0 (length (begins h)) ≡ is_again row h
again_newest row newest [] is same = refl
again_newest row newest (x ∷ h) is same = lt-ltb 0 (length (begins (x ∷ h))) (omega (arith, some_begin x h)) ∙ sym (ap (λ (y : Row). same_row y row) (sym is) ∙ same)

-- the newest row stays the newest one when an equal row is added any number of times
pub newest_again : (n : ℕ) (row newest : Row) (h : List Row) → IsNewest newest h → is_again row h ≡ true → IsNewest newest (replicate n row ++ h)
newest_again zero row newest h is m = is
newest_again (suc n) row newest [] is m = absurd (let t : true ≡ false = sym m in cc)
newest_again (suc n) row newest (x ∷ h) is m = is ∙ same_row_is x row m

-- the number with which a run begins, by its index
pub number_at : (h : List Row) (k : ℕ) (b : RunBegin) → slice_get (begins h) k ≡ Some b → get_or (numbers h) k 0 ≡ b.number
number_at h k b e = get_or_from_slice_get (numbers h) k b.number 0 (slice_get-map (λ (x : RunBegin). x.number) (begins h) k ∙ ap (option_map (λ (x : RunBegin). x.number)) e)
