-- Rows that the plan adds follow, once the plan adds no more.
use Rattle.std.proofs.Common.{◌≡◌, ◌≢◌, ℕ, ◌+◌, ◌<◌, ◌≤◌, Bool, true, false, not, ◌&&◌, ◌||◌, List, [], ◌∷◌, ◌++◌, Option, Some, None, length, cond, reverse, slice_get, nat_lt, nat_le, ◌==◌, refl, sym, ap, ap₂, ◌∙◌, subst, arith, leb-false, eq-eqb, ne_eqb, inl, inr}
use Rattle.std.specs.List.{AllByRecursion}
use Rattle.std.proofs.lemmas.Option.{none-some, same_Some}
use Rattle.std.proofs.lemmas.List.{append-nil, length-reverse}
use Rattle.std.proofs.lemmas.Bool.Decides.{nat_tests}
use Rattle.mc_task.specs.declared.task.Rule.{Rule}
use Rattle.mc_task.specs.declared.task.Task.{Task}
use Rattle.mc_task.specs.declared.task.JobId.{JobId}
use Rattle.mc_task.specs.TaskSet.{IsTask}
use Rattle.mc_model.specs.declared.row.How.{How}
use Rattle.mc_model.specs.declared.row.How.TheVariants.{More, Stop, Over}
use Rattle.mc_model.specs.declared.row.Row.{Row}
use Rattle.mc_model.specs.declared.row.Row.TheVariants.{Release, Tick}
use Rattle.mc_model.specs.declared.work.WorkRow.{WorkRow}
use Rattle.mc_model.specs.Pending.{pending}
use Rattle.mc_model.specs.Rows.{ticks, same_job}
use Rattle.mc_model.specs.Mode.{high_mode}
use Rattle.mc_model.specs.Legal.{is_done, Legal}
use Rattle.mc_model.specs.Key.{key}
use Rattle.mc_model.specs.Core.{chosen, release_row, outcome_of, runs_before}
use Rattle.mc_model.specs.Follows.{Arrival, arrivals, planned, ends_in_tick, done_by_need, lowest_first, none_lower, is_lowest, Follows}
use Rattle.mc_model.proofs.Lists.{Each, Each-map}
use Rattle.mc_model.proofs.Jobs.{any_in, same_job-refl}
use Rattle.mode_core.proofs.CallerLemmas.{Choice, choice, IsFirst, is_first, all_from, same_bool-refl}
use Rattle.timetable.specs.Ticks.{is_last, tick_row}
use Rattle.timetable.specs.Shape.{first_job, row_now, next_row, Runs}
use Rattle.mc_model.specs.Work.{AllFollow, IsWork}
use Rattle.timetable.proofs.Determined.{Later, Later-less, planned_either, planned_each, reverse-move}
use Rattle.std.proofs.lemmas.Bool.{and_from, cases_Bool, cases_eq}
use Rattle.std.proofs.Math.Bool.{beq}

-- The rows that are added.

-- a row that the plan adds, with the first release that was not taken before it
pub record Added (set : List Task) (rule : Rule) (work : List WorkRow) (n : ℕ) (g : List Row) (row : Row) : Type 0 where
  pub head : Option Arrival
  pub head_is : slice_get (planned work n) (length (arrivals g)) ≡ head
  pub row_is : row_now set rule work g head ≡ row
  pub soon : ticks g < n

-- each row that the plan adds has the parts of `Added`
pub added : (set : List Task) (rule : Rule) (work : List WorkRow) (n : ℕ) (g : List Row) (row : Row) → next_row set rule work n g ≡ Some row → Added set rule work n g row
added set rule work n g row e = elim (cases_Bool (nat_le n (ticks g))) [
  | inl m ↦ absurd (none-some row (rw m at e))
  | inr m ↦ record { head = slice_get (planned work n) (length (arrivals g)); head_is = refl; row_is = same_Some _ row (rw m at e); soon = leb-false _ _ m }
]

-- whether the head is due decides between a release and a tick
pub record IsTickRow (set : List Task) (rule : Rule) (work : List WorkRow) (g : List Row) (head : Option Arrival) (row : Row) : Type 0 where
  pub row_is : tick_row set rule work g (chosen set rule g) ≡ row
  pub not_due : (a : Arrival) → head ≡ Some a → a.at ≢ ticks g

-- if no release is added, the row is that of a tick
no_release : (set : List Task) (rule : Rule) (work : List WorkRow) (g : List Row) (o : Option Arrival) (row : Row) → ((j : JobId) → release_row set rule j g ≢ row) → row_now set rule work g o ≡ row → IsTickRow set rule work g o row
no_release set rule work g None row apart e = record { row_is = e; not_due = λ a k. cc }
no_release set rule work g (Some a) row apart e = elim (cases_eq a.at (ticks g)) [
  | inl m ↦ absurd (apart (first_job g a.task) (rw (eq-eqb _ _ m) at e))
  | inr d ↦ record { row_is = rw (ne_eqb _ _ d) at e; not_due = λ x k. subst (λ (y : Arrival). y.at ≢ ticks g) (same_Some a x k) d }
]

-- an arrival of task number k at t
abbrev pub arrival : ℕ → ℕ → Arrival
arrival k t = record { task = k; at = t }

-- the row of a tick is not a release
no_tick : (set : List Task) (rule : Rule) (work : List WorkRow) (g : List Row) (c : Option JobId) (j : JobId) (kept : Bool) → tick_row set rule work g c ≢ Release j kept
no_tick set rule work g None j kept e = cc
no_tick set rule work g (Some i) j kept e = cc

-- a release that is added is the first that was not taken, at this boundary
pub release_rows : (set : List Task) (rule : Rule) (work : List WorkRow) (g : List Row) (o : Option Arrival) (j : JobId) (kept : Bool) → row_now set rule work g o ≡ Release j kept → o ≡ Some (arrival j.task.0 (ticks g))
release_rows set rule work g None j kept e = absurd (no_tick set rule work g (chosen set rule g) j kept e)
release_rows set rule work g (Some a) j kept e = elim (cases_eq a.at (ticks g)) [
  | inl m ↦
      let k : release_row set rule (first_job g a.task) g ≡ Release j kept = rw (eq-eqb _ _ m) at e in
      let d : first_job g a.task ≡ j = cc in
      ap₂ (λ (i t : ℕ). Some (arrival i t)) (ap (λ (x : JobId). x.task.0) d) m
  | inr d ↦ absurd (no_tick set rule work g (chosen set rule g) j kept (rw (ne_eqb _ _ d) at e))
]

-- the job and the outcome of a tick that is added
pub record IsChosenTick (set : List Task) (rule : Rule) (work : List WorkRow) (g : List Row) (j : JobId) (how : How) : Type 0 where
  pub chosen_is : chosen set rule g ≡ Some j
  pub how_is : how ≡ outcome_of set rule g j (is_last work g j)

-- a tick that is added is of the chosen job, with the outcome that its need gives
chosen_tick : (set : List Task) (rule : Rule) (work : List WorkRow) (g : List Row) (j : JobId) (how : How) → tick_row set rule work g (chosen set rule g) ≡ Tick j how → IsChosenTick set rule work g j how
chosen_tick set rule work g j how e = go (chosen set rule g) refl e
  where
    go : (c : Option JobId) → chosen set rule g ≡ c → tick_row set rule work g c ≡ Tick j how → IsChosenTick set rule work g j how
    go None m k = cc
    go (Some i) m k =
        let d : i ≡ j = cc in
        let h : outcome_of set rule g i (is_last work g i) ≡ how = cc in
        record { chosen_is = m ∙ ap (λ (x : JobId). Some x) d; how_is = sym (subst (λ (x : JobId). outcome_of set rule g x (is_last work g x) ≡ how) d h) }

-- The parts of `Follows`.

-- an outcome that is determined by budgets is never Done
never_done : (b c : Bool) → is_done (cond b Stop (cond c Over More)) ≡ false
never_done true c = refl
never_done false true = refl
never_done false false = refl

-- the outcome is Done exactly if the job is said to be done
pub done_as : (set : List Task) (rule : Rule) (g : List Row) (j : JobId) (d : Bool) → is_done (outcome_of set rule g j d) ≡ d
done_as set rule g j true = refl
done_as set rule g j false = never_done _ _

-- if a key is not before another, its number is not lower at an equal key
not_lower : (kx ki tx ti : ℕ) → (nat_lt kx ki || ((kx == ki) && nat_lt tx ti)) ≡ false → not ((kx == ki) && nat_lt tx ti) ≡ true
not_lower kx ki tx ti h = grind (arith, nat_tests)

-- no pending job of a lower number has the chosen job's key
lowest : (set : List Task) (rule : Rule) (g : List Row) (j : JobId) → chosen set rule g ≡ Some j → is_lowest set rule (high_mode rule g) (pending set g) j ≡ true
lowest set rule g j e =
    let c : Choice set rule g j = choice set rule g j e in
    let high : Bool = high_mode rule g in
    let f : IsFirst set rule high (pending set g) c.kept = is_first set rule high (pending set g) c.kept c.first in
    let one : none_lower set rule high c.kept (pending set g) ≡ true =
    all_from (λ z. not ((key set rule high z == key set rule high c.kept) && nat_lt z.job.task.0 c.kept.job.task.0)) (pending set g)
    (Each-map {P = λ z. runs_before set rule high z c.kept ≡ false}
    (λ z r. not_lower (key set rule high z) (key set rule high c.kept) z.job.task.0 c.kept.job.task.0 r) (pending set g) f.none_before) in
    subst (λ (k : JobId). is_lowest set rule high (pending set g) k ≡ true) c.job
    (any_in (λ i. same_job c.kept.job i.job && none_lower set rule high i (pending set g)) c.kept (pending set g) f.inside (and_from _ _ (same_job-refl c.kept.job) one))

-- the times of the arrivals never fall
abbrev pub Sorted : List Arrival → Type 0
Sorted [] = Unit {0}
Sorted (a ∷ xs) = Later a.at xs × Sorted xs

-- what is planned after a work row is not before it
pub later_planned : (set : List Task) (w : WorkRow) (ws : List WorkRow) (n : ℕ) → AllFollow set w ws → Later w.release (planned ws n)
later_planned set w [] n f = tt
later_planned set w (v ∷ vs) n f =
    let after = later_planned set w vs n f.1 in
    planned_either (Later w.release) v vs n (λ h. (f.0.order, after)) after

-- the times of the planned arrivals never fall
pub planned_sorted : (set : List Task) (work : List WorkRow) (n : ℕ) → IsWork set work → Sorted (planned work n)
planned_sorted set [] n w = tt
planned_sorted set (v ∷ vs) n w = planned_either Sorted v vs n (λ h. (later_planned set v vs n w.1, planned_sorted set vs n w.2)) (planned_sorted set vs n w.2)

-- each arrival is at 0 or later
Later-any : (xs : List Arrival) → Later 0 xs
Later-any [] = tt
Later-any (a ∷ xs) = (omega arith, Later-any xs)

-- the arrivals that are still to come
pub record Rest (work : List WorkRow) (n : ℕ) (h : List Row) : Type 0 where
  pub rest : List Arrival
  pub split : reverse (arrivals h) ++ rest ≡ planned work n
  pub later : Later (ticks h) rest
  pub sorted : Sorted rest
  pub within : ticks h ≤ n

-- the first of the arrivals that are still to come is the next entry
head_of : (xs : List Arrival) (rest : List Arrival) → slice_get (xs ++ rest) (length xs) ≡ slice_get rest 0
head_of [] rest = refl
head_of (x ∷ xs) rest = head_of xs rest

-- the first release that was not taken
pub head_at : (work : List WorkRow) (n : ℕ) (g : List Row) (rest : List Arrival) → reverse (arrivals g) ++ rest ≡ planned work n → slice_get (planned work n) (length (arrivals g)) ≡ slice_get rest 0
head_at work n g rest e =
    subst (λ xs. slice_get xs (length (arrivals g)) ≡ slice_get rest 0) e (subst (λ (i : ℕ). slice_get (reverse (arrivals g) ++ rest) i ≡ slice_get rest 0) (length-reverse (arrivals g)) (head_of (reverse (arrivals g)) rest))

-- if the first arrival is not due, all are later
later_more : (t : ℕ) (rest : List Arrival) → Later t rest → Sorted rest → ((a : Arrival) → slice_get rest 0 ≡ Some a → a.at ≢ t) → Later (t + 1) rest
later_more t [] l s d = tt
later_more t (a ∷ xs) l s d =
    (omega (arith, d a refl, l.0), Later-less (t + 1) a.at xs (omega (arith, d a refl, l.0)) s.0)

-- after a row that is not a release, what is still to come is later than its tick
rest_later : (set : List Task) (rule : Rule) (work : List WorkRow) (n : ℕ) (g : List Row) (row : Row) → ((j : JobId) → release_row set rule j g ≢ row) → Added set rule work n g row → (r : Rest work n g) → Later (ticks g + 1) r.rest
rest_later set rule work n g row apart x r =
    let t = no_release set rule work g x.head row apart x.row_is in
    later_more (ticks g) r.rest r.later r.sorted (λ a e. t.not_due a (sym x.head_is ∙ (head_at work n g r.rest r.split ∙ e)))

-- the rows that the plan adds leave arrivals that are still to come
pub rest_of : (set : List Task) (rule : Rule) (work : List WorkRow) (n : ℕ) (h : List Row) → IsWork set work → Runs set rule work n h → Rest work n h
rest_of set rule work n [] w r = record { rest = planned work n; split = refl; later = Later-any (planned work n); sorted = planned_sorted set work n w; within = omega arith }
rest_of set rule work n (Release j kept ∷ g) w r =
    let ih : Rest work n g = rest_of set rule work n g w r.1 in
    let x = added set rule work n g (Release j kept) r.0 in
    let a : Arrival = record { task = j.task.0; at = ticks g } in
    let e : slice_get ih.rest 0 ≡ Some a = sym (head_at work n g ih.rest ih.split) ∙ (x.head_is ∙ release_rows set rule work g x.head j kept x.row_is) in
    taken ih.rest a ih.split ih.later ih.sorted ih.within e
  where
    taken : (rest : List Arrival) (a : Arrival) → reverse (arrivals g) ++ rest ≡ planned work n → Later (ticks g) rest → Sorted rest → ticks g ≤ n → slice_get rest 0 ≡ Some (record { task = j.task.0; at = ticks g }) → Rest work n (Release j kept ∷ g)
    taken [] a p l s t e = cc
    taken (b ∷ xs) a p l s t e =
        let d : b ≡ record { task = j.task.0; at = ticks g } = same_Some b _ e in
        record {
          rest = xs;
          split = reverse-move (record { task = j.task.0; at = ticks g }) (arrivals g) xs ∙ (ap (λ (y : Arrival). reverse (arrivals g) ++ y ∷ xs) (sym d) ∙ p);
          later = l.1;
          sorted = s.1;
          within = t;
        }
rest_of set rule work n (row ∷ g) w r =
    let ih : Rest work n g = rest_of set rule work n g w r.1 in
    let x = added set rule work n g row r.0 in
    record { rest = ih.rest; split = ih.split; later = rest_later set rule work n g row (λ i e. cc) x ih; sorted = ih.sorted; within = omega (arith, x.soon) }

-- each tick that the plan adds is done exactly if its job has had the ticks that it needs
done_parts : (set : List Task) (rule : Rule) (work : List WorkRow) (n : ℕ) (h : List Row) → Runs set rule work n h → done_by_need work h ≡ true
done_parts set rule work n [] r = refl
done_parts set rule work n (Tick j how ∷ g) r =
    let x = added set rule work n g (Tick j how) r.0 in
    let c = chosen_tick set rule work g j how (no_release set rule work g x.head (Tick j how) (λ i e. cc) x.row_is).row_is in
    let d : is_done how ≡ is_last work g j = ap is_done c.how_is ∙ done_as set rule g j (is_last work g j) in
    and_from _ _ (subst (λ (b : Bool). beq b (is_last work g j) ≡ true) (sym d) (same_bool-refl (is_last work g j))) (done_parts set rule work n g r.1)
done_parts set rule work n (row ∷ g) r = done_parts set rule work n g r.1

-- each tick that the plan adds goes to the lowest number among equal keys
lowest_parts : (set : List Task) (rule : Rule) (work : List WorkRow) (n : ℕ) (h : List Row) → Runs set rule work n h → lowest_first set rule h ≡ true
lowest_parts set rule work n [] r = refl
lowest_parts set rule work n (Tick j how ∷ g) r =
    let x = added set rule work n g (Tick j how) r.0 in
    let c = chosen_tick set rule work g j how (no_release set rule work g x.head (Tick j how) (λ i e. cc) x.row_is).row_is in
    and_from _ _ (lowest set rule g j c.chosen_is) (lowest_parts set rule work n g r.1)
lowest_parts set rule work n (row ∷ g) r = lowest_parts set rule work n g r.1

-- after n ticks the last row is a tick
ends : (set : List Task) (rule : Rule) (work : List WorkRow) (n : ℕ) (h : List Row) → 1 ≤ n → n ≤ ticks h → Runs set rule work n h → ends_in_tick h ≡ true
ends set rule work n [] p e r = absurd (omega (arith, p, e))
ends set rule work n (Release j kept ∷ g) p e r = absurd (omega (arith, (added set rule work n g (Release j kept) r.0).soon, e))
ends set rule work n (row ∷ g) p e r = refl

-- what holds of each arrival holds of one in the middle
pub at_middle : (P : Arrival → Type 0) (front : List Arrival) (a : Arrival) (xs : List Arrival) → Each P (front ++ a ∷ xs) → P a
at_middle P [] a xs e = e.0
at_middle P (b ∷ bs) a xs e = at_middle P bs a xs e.1

-- after n ticks no arrival is still to come
nothing_left : (n : ℕ) (rest front : List Arrival) → Later n rest → Each (λ a. a.at < n) (front ++ rest) → rest ≡ []
nothing_left n [] front l e = refl
nothing_left n (a ∷ xs) front l e = absurd (omega (arith, l.0, at_middle (λ (b : Arrival). b.at < n) front a xs e))

-- rows that the plan adds, n ticks long, follow
pub runs_follow : (set : List Task) (rule : Rule) (work : List WorkRow) (n : ℕ) (h : List Row) → AllByRecursion IsTask set → IsWork set work → 1 ≤ n → Legal set rule h → Runs set rule work n h → n ≤ ticks h → Follows set rule work n h
runs_follow set rule work n h s w p l r e =
    let x : Rest work n h = rest_of set rule work n h w r in
    let full : ticks h ≡ n = omega (arith, x.within, e) in
    let none : x.rest ≡ [] = nothing_left n x.rest (reverse (arrivals h)) (subst (λ (i : ℕ). Later i x.rest) full x.later) (subst (Each (λ (a : Arrival). a.at < n)) (sym x.split) (planned_each work n)) in
    record {
      legal = l;
      ticks = full;
      ends = ends set rule work n h p e r;
      releases = sym (append-nil (reverse (arrivals h))) ∙ subst (λ xs. reverse (arrivals h) ++ xs ≡ planned work n) none x.split;
      done = done_parts set rule work n h r;
      lowest = lowest_parts set rule work n h r;
    }
