-- What follows for a row that may stand after others.
use Rattle.std.proofs.Common.{IfNone, set, ◌≡◌, ℕ, ◌+◌, ◌-◌, ◌≤◌, ◌⊎◌, inl, inr, Bool, true, false, ◌==◌, nat_lt, cond, List, [], ◌∷◌, ◌++◌, length, Option, Some, None, refl, sym, ap, ◌∙◌, subst, arith, slice_get}
use Rattle.std.proofs.lemmas.Bool.Decides.{nat_tests}
use Rattle.std.specs.Option.{option_or}
use Rattle.mc_task.specs.declared.task.Task.{Task}
use Rattle.mc_task.specs.TaskSet.{task_at, IsIn}
use Rattle.mc_model.specs.TaskNumbers.{period_in}
use Rattle.mc_model.specs.Work.{MayFollow, AllFollow, IsNeed, IsWork}
use Rattle.mc_model.specs.declared.work.WorkRow.{WorkRow}
use Rattle.work_file.specs.declared.fault.WorkCause.{WorkCause}
use Rattle.work_file.specs.declared.fault.WorkCause.TheVariants.{ZeroNeed, Unsorted, TooSoon}
use Rattle.work_file.specs.Rows.{last_release, last_of, period_after, next_allowed, time_fault}

-- the last release is that of the row at the last index
at_last : (v : WorkRow) (us : List WorkRow) (w : WorkRow) → slice_get (v ∷ us) (length us) ≡ Some w → w.release ≡ last_release (v ∷ us)
at_last v [] w h = cc
at_last v (u ∷ us) w h = at_last u us w h

pub last_some : (rows : List WorkRow) (w : WorkRow) → slice_get rows (length rows - 1) ≡ Some w → w.release ≡ last_release rows
last_some [] w h = absurd (cc)
last_some (v ∷ us) w h =
    let place : length (v ∷ us) - 1 ≡ length us = omega arith in
    at_last v us w (subst (λ (n : ℕ). slice_get (v ∷ us) n ≡ Some w) place h)

-- one more row is the last of its task, and changes the last row of no other task
more_cases : (o : Option WorkRow) (a b : Bool) (v w : WorkRow) → option_or (cond a (Some w) o) (cond b (Some v) None) ≡ cond a (Some w) (option_or o (cond b (Some v) None))
more_cases o true b v w = refl
more_cases o false b v w = refl

pub last_of-more : (k : ℕ) (ws : List WorkRow) (w : WorkRow) → last_of k (ws ++ w ∷ []) ≡ cond (w.task.0 == k) (Some w) (last_of k ws)
last_of-more k [] w = refl
last_of-more k (v ∷ vs) w =
    ap (λ (o : Option WorkRow). option_or o (cond (v.task.0 == k) (Some v) None)) (last_of-more k vs w)
    ∙ more_cases (last_of k vs) (w.task.0 == k) (v.task.0 == k) v w

-- if the second of two options is chosen, there is no first
option_or-cases : {A : Type 0} (a b : Option A) (x : A) → option_or a b ≡ Some x → (a ≡ Some x) ⊎ ((a ≡ None) × (b ≡ Some x))
option_or-cases (Some y) b x h = inl h
option_or-cases None b x h = inr (refl, h)

chosen : {A : Type 0} (t : Bool) (x y : A) → cond t (Some x) None ≡ Some y → (t ≡ true) × (x ≡ y)
chosen true x y h = (refl, cc)
chosen false x y h = absurd (cc)

-- a row that may come before all of a list is not released after the last of them
follow-last : (set : List Task) (v u : WorkRow) (us : List WorkRow) → AllFollow set v (u ∷ us) → v.release ≤ last_release (u ∷ us)
follow-last set v u [] h = h.0.order
follow-last set v u (x ∷ xs) h = follow-last set v x xs (h.1)

-- the last row of the same task is released at least a period after row v, which is before all of them
follow-last_of : (set : List Task) (v : WorkRow) (us : List WorkRow) (x : WorkRow) → AllFollow set v us → last_of v.task.0 us ≡ Some x
    → v.release + period_in (task_at set v.task.0) ≤ x.release
follow-last_of set v [] x h e = absurd (cc)
follow-last_of set v (u ∷ us) x h e =
    elim (option_or-cases (last_of v.task.0 us) (cond (u.task.0 == v.task.0) (Some u) None) x e) [
      | inl later ↦ follow-last_of set v us x (h.1) later
      | inr this ↦
          let is = chosen (u.task.0 == v.task.0) u x (this.1) in
          let same : v.task.0 ≡ u.task.0 = grind (arith, nat_tests, is.0) in
          subst (λ (z : WorkRow). v.release + period_in (task_at set v.task.0) ≤ z.release) (is.1) (h.0.apart same)
    ]

AllFollow-more : (set : List Task) (v : WorkRow) (us : List WorkRow) (w : WorkRow) → AllFollow set v us → MayFollow set v w → AllFollow set v (us ++ w ∷ [])
AllFollow-more set v [] w h last = (last, tt)
AllFollow-more set v (u ∷ us) w h last = (h.0, AllFollow-more set v us w (h.1) last)

-- without its first row, a list has no later last release, and no later next allowed release
rest-last : (v : WorkRow) (vs : List WorkRow) (r : ℕ) → last_release (v ∷ vs) ≤ r → last_release vs ≤ r
rest-last v [] r h = omega arith
rest-last v (u ∷ us) r h = h

rest-next : (p r : ℕ) (o first : Option WorkRow) → period_after p (option_or o first) ≤ r → period_after p o ≤ r
rest-next p r None first h = omega arith
rest-next p r (Some x) first h = h

-- if the next allowed release is at most r, r is at least a period after a row before all others
first-apart : (set : List Task) (v : WorkRow) (vs : List WorkRow) (r : ℕ) → AllFollow set v vs → next_allowed set (v ∷ vs) v.task.0 ≤ r
    → v.release + period_in (task_at set v.task.0) ≤ r
first-apart set v vs r h next = by (last_of v.task.0 vs) refl next
  where
    by : (o : Option WorkRow) → last_of v.task.0 vs ≡ o → period_after (period_in (task_at set v.task.0)) (option_or o (cond (v.task.0 == v.task.0) (Some v) None)) ≤ r
        → v.release + period_in (task_at set v.task.0) ≤ r
    by (Some x) e h2 = let later : v.release + period_in (task_at set v.task.0) ≤ x.release = follow-last_of set v vs x h e in omega arith
    by None e h2 = grind (arith, nat_tests, h2)

first-may : (set : List Task) (v : WorkRow) (vs : List WorkRow) (w : WorkRow) → AllFollow set v vs → last_release (v ∷ vs) ≤ w.release → next_allowed set (v ∷ vs) w.task.0 ≤ w.release → MayFollow set v w
first-may set v vs w h last next = record {
  order = order vs h last;
  apart = λ same. first-apart set v vs w.release h (subst (λ (k : ℕ). next_allowed set (v ∷ vs) k ≤ w.release) (sym same) next);
}
  where
    order : (us : List WorkRow) → AllFollow set v us → last_release (v ∷ us) ≤ w.release → v.release ≤ w.release
    order [] f l = l
    order (u ∷ us) f l = let first : v.release ≤ last_release (u ∷ us) = follow-last set v u us f in omega arith

-- a list of work with one more row that may stand there is a list of work
more : (set : List Task) (before : List WorkRow) (w : WorkRow) → IsWork set before → IsNeed set w → last_release before ≤ w.release → next_allowed set before w.task.0 ≤ w.release
    → IsWork set (before ++ w ∷ [])
more set [] w h need last next = (need, tt, tt)
more set (v ∷ vs) w h need last next = (
  h.0,
  AllFollow-more set v vs w (h.1) (first-may set v vs w (h.1) last next),
  more set vs w (h.2) need (rest-last v vs w.release last) (rest-next _ w.release (last_of w.task.0 vs) _ next),
)

-- what the absence of a fault means
no_fault : (set : List Task) (before : List WorkRow) (w : WorkRow) → time_fault set before w ≡ None
    → (1 ≤ w.need) × (last_release before ≤ w.release) × (next_allowed set before w.task.0 ≤ w.release)
unfolding time_fault
no_fault set before w h = by (w.need == 0) (nat_lt w.release (last_release before)) (nat_lt w.release (next_allowed set before w.task.0)) refl refl refl h
  where
    by : (x y z : Bool) → w.need == 0 ≡ x → nat_lt w.release (last_release before) ≡ y → nat_lt w.release (next_allowed set before w.task.0) ≡ z
        → cond x (Some ZeroNeed) (cond y (Some Unsorted) (cond z (Some (TooSoon (next_allowed set before w.task.0))) None)) ≡ None
        → (1 ≤ w.need) × (last_release before ≤ w.release) × (next_allowed set before w.task.0 ≤ w.release)
    by true y z a b c h2 = absurd (cc)
    by false true z a b c h2 = absurd (cc)
    by false false true a b c h2 = absurd (cc)
    by false false false a b c h2 = (grind (arith, nat_tests, a), grind (arith, nat_tests, b), grind (arith, nat_tests, c))

IsWork-more : (set : List Task) (before : List WorkRow) (w : WorkRow) → IsWork set before → IsIn set w.task.0 → time_fault set before w ≡ None → IsWork set (before ++ w ∷ [])
IsWork-more set before w h task none =
    let f = no_fault set before w none in
    more set before w h (record { task = task; need = f.0 }) (f.1) (f.2)

-- a row without fault makes a longer list of work
pub IsWork-taken : (set : List Task) (before : List WorkRow) (w : WorkRow) → IsWork set before → IsIn set w.task.0 → IfNone (time_fault set before w) (IsWork set (before ++ w ∷ []))
IsWork-taken set before w h task = by (time_fault set before w) refl
  where
    by : (o : Option WorkCause) → time_fault set before w ≡ o → IfNone o (IsWork set (before ++ w ∷ []))
    by (Some cause) e = tt
    by None e = IsWork-more set before w h task e

-- the next allowed release of task number k after one more row
pushed : (b : Bool) (p : ℕ) (w : WorkRow) (o : Option WorkRow) → period_after p (cond b (Some w) o) ≡ cond b (w.release + p) (period_after p o)
pushed true p w o = refl
pushed false p w o = refl

pub next-more : (set : List Task) (before : List WorkRow) (w : WorkRow) (k : ℕ) → next_allowed set (before ++ w ∷ []) k ≡ cond (w.task.0 == k) (w.release + period_in (task_at set k)) (next_allowed set before k)
next-more set before w k = ap (λ (o : Option WorkRow). period_after (period_in (task_at set k)) o) (last_of-more k before w) ∙ pushed (w.task.0 == k) (period_in (task_at set k)) w (last_of k before)
