-- In a trace that follows, each row is the one that the plan adds.
use Rattle.std.proofs.Common.{◌≡◌, ℕ, ◌+◌, ◌<◌, ◌≤◌, Bool, true, false, List, [], ◌∷◌, ◌++◌, Option, Some, None, length, reverse, slice_get, nat_lt, refl, sym, ap, ap₂, ◌∙◌, subst, arith, ltb-true, ◌-◌, option_map, le_refl, le-leb, zero, suc, append_assoc, inl, inr, ne_eqb}
use Rattle.std.proofs.lemmas.Option.{none-some, same_Some}
use Rattle.std.proofs.lemmas.List.{append-nil, length-reverse}
use Rattle.std.proofs.lemmas.Grind.{reverse_onto}
use Rattle.mc_task.specs.declared.task.Rule.{Rule}
use Rattle.mc_task.specs.declared.task.Task.{Task}
use Rattle.mc_task.specs.declared.task.JobId.{JobId}
use Rattle.std.specs.List.{AllByRecursion}
use Rattle.mc_task.specs.TaskSet.{IsTask}
use Rattle.mc_model.specs.declared.row.How.{How}
use Rattle.mc_model.specs.declared.row.How.TheVariants.{More, Done, Stop, Over}
use Rattle.mc_model.specs.declared.row.Row.{Row}
use Rattle.mc_model.specs.declared.row.Row.TheVariants.{Release, Tick, Idle}
use Rattle.mc_model.specs.declared.work.WorkRow.{WorkRow}
use Rattle.mc_model.specs.Holds.{Fits}
use Rattle.mc_model.specs.Pending.{KeptRelease, pending}
use Rattle.mc_model.specs.Rows.{ticks, used}
use Rattle.mc_model.specs.Mode.{high_mode}
use Rattle.mc_model.specs.Legal.{same_how, is_done, is_empty, is_allowed_how, how_of, Legal}
use Rattle.mc_model.specs.Core.{chosen, keeps, release_row, outcome_of, first_to_run}
use Rattle.mc_model.specs.Follows.{Arrival, arrivals, planned, done_by_need, lowest_first, Follows}
use Rattle.mc_model.proofs.Lists.{Each}
use Rattle.mc_model.proofs.Booleans.{eqb-refl}
use Rattle.mc_model.proofs.Steps.{release_fits, parts_one, parts_three}
use Rattle.timetable.specs.Ticks.{is_last, tick_row}
use Rattle.timetable.specs.Shape.{first_job, row_now, next_row, Runs}
use Rattle.timetable.proofs.OneChosen.{chosen_is}
use Rattle.std.proofs.lemmas.Bool.{and_parts, cases_Bool, cases_order, lt-leb}
use Rattle.std.proofs.Math.Bool.{beq}

-- the arrivals that are still to come are at t or later
abbrev pub Later : ℕ → List Arrival → Type 0
Later t [] = Unit {0}
Later t (a ∷ xs) = (t ≤ a.at) × Later t xs

-- arrivals that come at a time or later come at an earlier time or later
pub Later-less : (t u : ℕ) (xs : List Arrival) → t ≤ u → Later u xs → Later t xs
Later-less t u [] h l = tt
Later-less t u (a ∷ xs) h l = (omega (arith, h, l.0), Later-less t u xs h l.1)

-- the entry of two joined lists at the length of the first list is the head of the second
get_at : (xs : List Arrival) (a : Arrival) (ys : List Arrival) → slice_get (xs ++ a ∷ ys) (length xs) ≡ Some a
get_at [] a ys = refl
get_at (x ∷ xs) a ys = get_at xs a ys

-- a list has no entry at the index that is its length
get_past : (xs : List Arrival) → slice_get xs (length xs) ≡ None
get_past [] = refl
get_past (x ∷ xs) = get_past xs

-- a property that holds with a work row's arrival and without it holds of what is planned of the row and
-- those after it
pub planned_either : (P : List Arrival → Type 0) (w : WorkRow) (ws : List WorkRow) (n : ℕ) →
    (w.release < n → P (record { task = w.task.0; at = w.release } ∷ planned ws n)) → P (planned ws n) → P (planned (w ∷ ws) n)
planned_either P w ws n with without = elim (cases_Bool (nat_lt w.release n)) [ inl m ↦ rw m (with (ltb-true _ _ m)) | inr m ↦ rw m without ]

-- each planned arrival is before n
pub planned_each : (work : List WorkRow) (n : ℕ) → Each (λ a. a.at < n) (planned work n)
planned_each [] n = tt
planned_each (w ∷ ws) n = planned_either (Each (λ (a : Arrival). a.at < n)) w ws n (λ h. (h, planned_each ws n)) (planned_each ws n)

-- what holds of each arrival holds of the one at an index
each_get : (P : Arrival → Type 0) (xs : List Arrival) (i : ℕ) (a : Arrival) → Each P xs → slice_get xs i ≡ Some a → P a
each_get P [] i a h e = cc
each_get P (x ∷ xs) zero a h e = let d : x ≡ a = cc in subst P d h.0
each_get P (x ∷ xs) (suc i) a h e = each_get P xs i a h.1 e

-- two truth values that pass the test of equality are equal
same_bool-is : (a b : Bool) → beq a b ≡ true → a ≡ b
same_bool-is true true h = refl
same_bool-is false false h = refl
same_bool-is a b h = cc

-- the only outcome that is done is Done
how_done : (h : How) → is_done h ≡ true → h ≡ Done
how_done Done e = refl
how_done h e = cc

-- two outcomes that pass the test of equality are equal
how_same : (h k : How) → same_how h k ≡ true → h ≡ k
how_same More More e = refl
how_same Done Done e = refl
how_same Stop Stop e = refl
how_same Over Over e = refl
how_same h k e = cc

-- the outcome of a tick is fixed by whether its job is done
how_is : (set : List Task) (rule : Rule) (g : List Row) (j : JobId) (how : How) (d : Bool) → is_allowed_how set rule g j how ≡ true → is_done how ≡ d → how ≡ outcome_of set rule g j d
how_is set rule g j how true a e = how_done how e
how_is set rule g j how false a e = how_same how (how_of set rule g j (used g j + 1)) (rw e at a)

-- What a row says of the prefix before it.

-- the next row, by the first release that was not taken
pub next_at : (set : List Task) (rule : Rule) (work : List WorkRow) (n : ℕ) (g : List Row) (o : Option Arrival) → ticks g < n → slice_get (planned work n) (length (arrivals g)) ≡ o → next_row set rule work n g ≡ Some (row_now set rule work g o)
next_at set rule work n g o h e = rw (lt-leb n (ticks g) h, e) refl

-- the next release of the trace is the one that is due
release_next : (set : List Task) (rule : Rule) (work : List WorkRow) (n : ℕ) (j : JobId) (kept : Bool) (g : List Row) (rest : List Arrival) →
    Legal set rule (Release j kept ∷ g) → reverse (arrivals g) ++ record { task = j.task.0; at = ticks g } ∷ rest ≡ planned work n → next_row set rule work n g ≡ Some (Release j kept)
release_next set rule work n j kept g rest l e =
    let a : Arrival = record { task = j.task.0; at = ticks g } in
    let found : slice_get (planned work n) (length (arrivals g)) ≡ Some a =
    subst (λ xs. slice_get xs (length (arrivals g)) ≡ Some a) e (subst (λ (i : ℕ). slice_get (reverse (arrivals g) ++ a ∷ rest) i ≡ Some a) (length-reverse (arrivals g)) (get_at (reverse (arrivals g)) a rest)) in
    let soon : ticks g < n = each_get (λ (x : Arrival). x.at < n) (planned work n) (length (arrivals g)) a (planned_each work n) found in
    let fits = release_fits set rule j kept g l.1 in
    let k : kept ≡ keeps set rule g j.task.0 = same_bool-is kept (keeps set rule g j.task.0) fits.kept_so in
    let job : first_job g j.task.0 ≡ j = ap (λ (c : ℕ). let x : JobId = record { task = j.task; count = c } in x) (sym fits.count) in
    next_at set rule work n g (Some a) soon found
    ∙ rw (eqb-refl (ticks g)) (ap (λ (x : JobId). Some (release_row set rule x g)) job ∙ ap (λ (b : Bool). Some (Release j b)) (sym k))

-- no release is due before a tick
not_due : (set : List Task) (rule : Rule) (work : List WorkRow) (n : ℕ) (g : List Row) (rest : List Arrival) → ticks g < n → reverse (arrivals g) ++ rest ≡ planned work n → Later (ticks g + 1) rest → next_row set rule work n g ≡ Some (tick_row set rule work g (chosen set rule g))
not_due set rule work n g [] h e l =
    next_at set rule work n g None h
    (subst (λ xs. slice_get xs (length (arrivals g)) ≡ None) (sym (append-nil (reverse (arrivals g))) ∙ e) (subst (λ (i : ℕ). slice_get (reverse (arrivals g)) i ≡ None) (length-reverse (arrivals g)) (get_past (reverse (arrivals g)))))
not_due set rule work n g (a ∷ rest) h e l =
    let found : slice_get (planned work n) (length (arrivals g)) ≡ Some a =
    subst (λ xs. slice_get xs (length (arrivals g)) ≡ Some a) e (subst (λ (i : ℕ). slice_get (reverse (arrivals g) ++ a ∷ rest) i ≡ Some a) (length-reverse (arrivals g)) (get_at (reverse (arrivals g)) a rest)) in
    next_at set rule work n g (Some a) h found ∙ rw (ne_eqb a.at (ticks g) (omega (arith, l.0))) refl

-- the newest arrival stands last in the order of time
pub reverse-move : (a : Arrival) (xs ys : List Arrival) → reverse (a ∷ xs) ++ ys ≡ reverse xs ++ a ∷ ys
reverse-move a xs ys = ap (λ zs. zs ++ ys) (reverse_onto xs a []) ∙ append_assoc (reverse xs) (a ∷ []) ys

-- if nothing is pending, no job is chosen
nothing_chosen : (set : List Task) (rule : Rule) (g : List Row) → is_empty (pending set g) ≡ true → chosen set rule g ≡ None
nothing_chosen set rule g e = ap (λ (xs : List KeptRelease). option_map (λ (i : KeptRelease). i.job) (first_to_run set rule (high_mode rule g) xs)) (none (pending set g) e)
  where
    none : (xs : List KeptRelease) → is_empty xs ≡ true → xs ≡ []
    none [] m = refl
    none (x ∷ xs) m = cc

-- each row of a trace that follows, up to its releases that are still to come, is the one that the plan adds
pub determined : (set : List Task) (rule : Rule) (work : List WorkRow) (n : ℕ) (h : List Row) (rest : List Arrival) → AllByRecursion IsTask set → Fits rule → Legal set rule h → ticks h ≤ n → reverse (arrivals h) ++ rest ≡ planned work n → Later (ticks h) rest →
    done_by_need work h ≡ true → lowest_first set rule h ≡ true → Runs set rule work n h
determined set rule work n [] rest s f l t e r d o = tt
determined set rule work n (Release j kept ∷ g) rest s f l t e r d o =
    let e' = sym (reverse-move (record { task = j.task.0; at = ticks g }) (arrivals g) rest) ∙ e in
    (release_next set rule work n j kept g rest l e', determined set rule work n g (record { task = j.task.0; at = ticks g } ∷ rest) s f l.2 t e' (le_refl _, r) d o)
determined set rule work n (Tick j how ∷ g) rest s f l t e r d o =
    let p = parts_three _ _ _ _ _ _ l.1 in
    let c : chosen set rule g ≡ Some j = chosen_is set rule g j s f l.2 p.1 (and_parts _ _ o).0 in
    let w : how ≡ outcome_of set rule g j (is_last work g j) = how_is set rule g j how (is_last work g j) p.2 (same_bool-is _ _ (and_parts _ _ d).0) in (
      not_due set rule work n g rest (omega (arith, t)) e r ∙ (ap (λ (x : Option JobId). Some (tick_row set rule work g x)) c ∙ ap (λ (x : How). Some (Tick j x)) (sym w)),
      determined set rule work n g rest s f l.2 (omega (arith, t)) e (Later-less (ticks g) (ticks g + 1) rest (omega arith) r) (and_parts _ _ d).1 (and_parts _ _ o).1,
    )
determined set rule work n (Idle ∷ g) rest s f l t e r d o =
    let c : chosen set rule g ≡ None = nothing_chosen set rule g (parts_one _ _ l.1) in (
      not_due set rule work n g rest (omega (arith, t)) e r ∙ ap (λ (x : Option JobId). Some (tick_row set rule work g x)) c,
      determined set rule work n g rest s f l.2 (omega (arith, t)) e (Later-less (ticks g) (ticks g + 1) rest (omega arith) r) d o,
    )

-- Two lists of rows that the plan adds are equal.

-- two lists of rows that the plan adds are equal if they have one length
same_length : (set : List Task) (rule : Rule) (work : List WorkRow) (n : ℕ) (h k : List Row) → length h ≡ length k → Runs set rule work n h → Runs set rule work n k → h ≡ k
same_length set rule work n [] [] e a b = refl
same_length set rule work n [] (r ∷ k) e a b = absurd (omega (arith, e))
same_length set rule work n (q ∷ h) [] e a b = absurd (omega (arith, e))
same_length set rule work n (q ∷ h) (r ∷ k) e a b =
    let same : h ≡ k = same_length set rule work n h k (omega (arith, e)) a.1 b.1 in
    let next : q ≡ r = same_Some q r (sym a.0 ∙ (ap (next_row set rule work n) same ∙ b.0)) in
    ap₂ (λ (x : Row) (xs : List Row). x ∷ xs) next same

-- no list of rows that the plan adds is longer than one to which the plan adds no row
longer : (set : List Task) (rule : Rule) (work : List WorkRow) (n m : ℕ) (k h : List Row) → length k ≡ m + 1 + length h → Runs set rule work n k → Runs set rule work n h → next_row set rule work n h ≡ None → ⊥
longer set rule work n m [] h e a b f = omega (arith, e)
longer set rule work n zero (r ∷ k) h e a b f =
    let same = same_length set rule work n k h (omega (arith, e)) a.1 b in
    none-some r (sym f ∙ (ap (next_row set rule work n) (sym same) ∙ a.0))
longer set rule work n (suc m) (r ∷ k) h e a b f = longer set rule work n m k h (omega (arith, e)) a.1 b f

-- two lists of rows that the plan adds, and to which it adds no more, are equal
pub one : (set : List Task) (rule : Rule) (work : List WorkRow) (n : ℕ) (h k : List Row) → Runs set rule work n h → Runs set rule work n k → next_row set rule work n h ≡ None → next_row set rule work n k ≡ None → h ≡ k
one set rule work n h k a b c d = elim (cases_order (length h) (length k)) [
  | inl e ↦ same_length set rule work n h k e a b
  | inr (inl q) ↦ absurd (longer set rule work n (length k - length h - 1) k h (omega (arith, q)) b a c)
  | inr (inr q) ↦ absurd (longer set rule work n (length h - length k - 1) h k (omega (arith, q)) a b d)
]

-- the rows of a trace that follows are those that the plan adds
pub follows_runs : (set : List Task) (rule : Rule) (work : List WorkRow) (n : ℕ) (h : List Row) → AllByRecursion IsTask set → Fits rule → Follows set rule work n h → Runs set rule work n h
follows_runs set rule work n h s f x =
    determined set rule work n h [] s f x.legal (omega (arith, x.ticks)) (append-nil (reverse (arrivals h)) ∙ x.releases) tt x.done x.lowest

-- the plan adds no row to a trace that follows
pub follows_ends : (set : List Task) (rule : Rule) (work : List WorkRow) (n : ℕ) (h : List Row) → Follows set rule work n h → next_row set rule work n h ≡ None
follows_ends set rule work n h x = rw (le-leb n (ticks h) (omega (arith, x.ticks))) refl

-- at most one trace follows
pub one_follows : (set : List Task) (rule : Rule) (work : List WorkRow) (n : ℕ) (h k : List Row) → AllByRecursion IsTask set → Fits rule → Follows set rule work n h → Follows set rule work n k → h ≡ k
one_follows set rule work n h k s f x y = one set rule work n h k (follows_runs set rule work n h s f x) (follows_runs set rule work n k s f y) (follows_ends set rule work n h x) (follows_ends set rule work n k y)
