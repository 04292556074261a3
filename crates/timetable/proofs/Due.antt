-- A release that is due is allowed, and the core has capacity for each row.
use Rattle.std.proofs.Common.{◌≡◌, ℕ, zero, suc, ◌+◌, ◌<◌, ◌≤◌, Bool, true, false, List, [], ◌∷◌, ◌++◌, Option, Some, None, length, cond, filter, map, reverse, slice_get, nat_lt, refl, sym, ap, ◌∙◌, subst, arith, ltb-false, eq-eqb, ne_eqb, inl, inr}
use Rattle.std.proofs.lemmas.List.{length-append, length-reverse, reverse-reverse}
use Rattle.mc_task.specs.declared.task.Rule.{Rule}
use Rattle.mc_task.specs.declared.task.Task.{Task}
use Rattle.mc_model.specs.declared.row.Row.{Row}
use Rattle.mc_model.specs.declared.row.Row.TheVariants.{Release}
use Rattle.mc_model.specs.declared.work.WorkRow.{WorkRow}
use Rattle.mc_task.specs.TaskSet.{task_at}
use Rattle.mc_model.specs.TaskNumbers.{period_in}
use Rattle.mc_model.specs.Rows.{ticks, next_release}
use Rattle.mc_model.specs.Follows.{Arrival, arrivals, planned}
use Rattle.std.proofs.lemmas.Bool.{cases_eq}
use Rattle.mc_model.proofs.Lists.{Each, Each-reverse}
use Rattle.timetable.specs.Shape.{Runs}
use Rattle.mc_model.specs.Work.{AllFollow, IsNeed, IsWork}
use Rattle.timetable.proofs.Determined.{Later, planned_either, planned_each}
use Rattle.timetable.proofs.RunsFollow.{Rest, rest_of, at_middle, head_at, later_planned}

-- the arrival that a work row asks for
abbrev pub arrival_of : WorkRow → Arrival
arrival_of w = record { task = w.task.0; at = w.release }

-- the planned release of a work row
abbrev pub due_before : ℕ → Option WorkRow → Option Arrival
due_before n None = None
due_before n (Some w) = cond (nat_lt w.release n) (Some (arrival_of w)) None

-- nothing is planned after a row that is released at n or later
none_planned : (set : List Task) (w : WorkRow) (ws : List WorkRow) (n : ℕ) → AllFollow set w ws → n ≤ w.release → planned ws n ≡ []
none_planned set w ws n f h = go (planned ws n) (later_planned set w ws n f) (planned_each ws n)
  where
    go : (xs : List Arrival) → Later w.release xs → Each (λ a. a.at < n) xs → xs ≡ []
    go [] l e = refl
    go (a ∷ xs) l e = absurd (omega (arith, l.0, e.0, h))

-- the planned arrivals have the indices of their rows in the work
pub due_index : (set : List Task) (work : List WorkRow) (n i : ℕ) → IsWork set work → slice_get (planned work n) i ≡ due_before n (slice_get work i)
due_index set [] n i w = refl
due_index set (v ∷ vs) n i w = go (λ k. due_index set vs n k w.2) i (nat_lt v.release n) refl
  where
    go : ((k : ℕ) → slice_get (planned vs n) k ≡ due_before n (slice_get vs k)) → (i : ℕ) (b : Bool) → nat_lt v.release n ≡ b →
        slice_get (map (λ (x : WorkRow). record { task = x.task.0; at = x.release }) (cond b (v ∷ filter (λ x. nat_lt x.release n) vs) (filter (λ x. nat_lt x.release n) vs))) i ≡ due_before n (slice_get (v ∷ vs) i)
    go ih zero true m = rw m refl
    go ih (suc i) true m = ih i
    go ih zero false m = rw m (ap (λ xs. slice_get xs 0) (none_planned set v vs n w.1 (ltb-false _ _ m)))
    go ih (suc i) false m =
        let e : planned vs n ≡ [] = none_planned set v vs n w.1 (ltb-false _ _ m) in
        ap (λ xs. slice_get xs (suc i)) e ∙ (sym (ap (λ xs. slice_get xs i) e) ∙ ih i)

-- b is of another task than a, or a period before it
record IsApart (set : List Task) (b a : Arrival) : Type 0 where
  apart : b.task ≡ a.task → b.at + period_in (task_at set b.task) ≤ a.at

-- each arrival is apart from those before it
abbrev Spaced : List Task → List Arrival → Type 0
Spaced set [] = Unit {0}
Spaced set (a ∷ xs) = Each (IsApart set a) xs × Spaced set xs

-- what is planned after a work row is apart from it
apart_planned : (set : List Task) (w : WorkRow) (ws : List WorkRow) (n : ℕ) → AllFollow set w ws → Each (IsApart set (arrival_of w)) (planned ws n)
apart_planned set w [] n f = tt
apart_planned set w (v ∷ vs) n f =
    let after = apart_planned set w vs n f.1 in
    planned_either (Each (IsApart set (arrival_of w))) v vs n (λ h. (record { apart = f.0.apart }, after)) after

-- what is planned is spaced
planned_spaced : (set : List Task) (work : List WorkRow) (n : ℕ) → IsWork set work → Spaced set (planned work n)
planned_spaced set [] n w = tt
planned_spaced set (v ∷ vs) n w = planned_either (Spaced set) v vs n (λ h. (apart_planned set v vs n w.1, planned_spaced set vs n w.2)) (planned_spaced set vs n w.2)

-- each arrival before another is apart from it
before_each : (set : List Task) (front : List Arrival) (a : Arrival) (xs : List Arrival) → Spaced set (front ++ a ∷ xs) → Each (λ b. IsApart set b a) front
before_each set [] a xs s = tt
before_each set (b ∷ bs) a xs s = (at_middle (IsApart set b) bs a xs s.0, before_each set bs a xs s.1)

-- if each arrival so far is apart from a, the next release of its task may come at a
next_by : (set : List Task) (h : List Row) (a : Arrival) → Each (λ b. IsApart set b a) (arrivals h) → next_release set h a.task ≤ a.at
next_by set [] a e = omega arith
next_by set (Release j kept ∷ g) a e = elim (cases_eq j.task.0 a.task) [
  | inl d ↦ rw (eq-eqb _ _ d) (subst (λ (k : ℕ). ticks g + period_in (task_at set k) ≤ a.at) d (e.0.apart d))
  | inr d ↦ rw (ne_eqb _ _ d) (next_by set g a e.1)
]
next_by set (row ∷ g) a e = next_by set g a e

-- the release that is due may come now
pub due_allowed : (set : List Task) (rule : Rule) (work : List WorkRow) (n : ℕ) (h : List Row) (a : Arrival) → IsWork set work → Runs set rule work n h → slice_get (planned work n) (length (arrivals h)) ≡ Some a → next_release set h a.task ≤ a.at
due_allowed set rule work n h a w r e = go x.rest x.split (sym (head_at work n h x.rest x.split) ∙ e)
  where
    x : Rest work n h
    x = rest_of set rule work n h w r

    go : (rest : List Arrival) → reverse (arrivals h) ++ rest ≡ planned work n → slice_get rest 0 ≡ Some a → next_release set h a.task ≤ a.at
    go [] s k = cc
    go (b ∷ xs) s k =
        let d : b ≡ a = cc in
        let all : Each (λ c. IsApart set c b) (reverse (arrivals h)) = before_each set (reverse (arrivals h)) b xs (subst (Spaced set) (sym s) (planned_spaced set work n w)) in
        subst (λ (c : Arrival). next_release set h c.task ≤ c.at) d (next_by set h b (subst (Each (λ c. IsApart set c b)) (reverse-reverse (arrivals h)) (Each-reverse (λ c. IsApart set c b) (reverse (arrivals h)) all)))

-- a trace is as long as its ticks and its releases together
pub length-rows : (h : List Row) → length h ≡ ticks h + length (arrivals h)
length-rows [] = refl
length-rows (Release j kept ∷ g) = omega (arith, length-rows g)
length-rows (row ∷ g) = omega (arith, length-rows g)

-- no more releases are planned than the work has rows
pub planned-few : (work : List WorkRow) (n : ℕ) → length (planned work n) ≤ length work
planned-few [] n = omega arith
planned-few (w ∷ ws) n =
    let few : length (planned ws n) ≤ length ws = planned-few ws n in
    planned_either (λ xs. length xs ≤ length (w ∷ ws)) w ws n (λ h. omega arith) (omega arith)

-- no more releases were taken than the work has rows
pub taken-few : (set : List Task) (rule : Rule) (work : List WorkRow) (n : ℕ) (h : List Row) → IsWork set work → Runs set rule work n h → length (arrivals h) ≤ length work
taken-few set rule work n h w r =
    let x : Rest work n h = rest_of set rule work n h w r in
    omega (arith, ap length x.split, length-append (reverse (arrivals h)) x.rest, length-reverse (arrivals h), planned-few work n)

-- each row of the work is of the set, with a need
pub need_at : (set : List Task) (work : List WorkRow) (i : ℕ) (w : WorkRow) → IsWork set work → slice_get work i ≡ Some w → IsNeed set w
need_at set [] i w k e = cc
need_at set (v ∷ vs) zero w k e = let d : v ≡ w = cc in subst (IsNeed set) d k.0
need_at set (v ∷ vs) (suc i) w k e = need_at set vs i w k.2 e
