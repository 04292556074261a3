-- The releases of tasks are at least their periods apart.
use Rattle.std.proofs.Common.{◌≡◌, ℕ, zero, suc, ◌+◌, ◌-◌, ◌%◌, ◌<◌, ◌≤◌, Bool, true, false, cond, filter, List, [], ◌∷◌, ◌++◌, map, length, slice_index, refl, arith}
use Rattle.std.specs.List.{range_with_len}
use Rattle.std.proofs.lemmas.Bool.Decides.{nat_tests}
use Rattle.std.proofs.lemmas.Nat.Gcd.{dvd_of_mod-eq-zero, le_of_dvd}
use Rattle.std.proofs.Math.Nat.{dvd-sub}
use Rattle.mc_task.specs.declared.task.Task.{Task}
use Rattle.mc_task.specs.TaskSet.{IsIn, task_at}
use Rattle.mc_model.specs.TaskNumbers.{period_in}
use Rattle.mc_model.specs.Follows.{Arrival}
use Rattle.mc_model.proofs.Lists.{Each, Each-map, Each-append, Each-filter_if}
use Rattle.set_gen.specs.GeneratedWork.{is_released, releases_at, releases_below}
use Rattle.mc_model.proofs.Ranges.{each-map, each-range}

-- the later of two different multiples of a gap is at least a gap later
pub later_multiple : (gap a b : ℕ) → 1 ≤ gap → a % gap ≡ 0 → b % gap ≡ 0 → a < b → a + gap ≤ b
later_multiple gap a b some first second less =
    let apart = dvd-sub gap (dvd_of_mod-eq-zero gap second) (dvd_of_mod-eq-zero gap first) in
    let far : gap ≤ b - a = le_of_dvd (omega arith) apart in
    omega arith

-- release b may come after release a
pub record Apart (set : List Task) (a b : Arrival) : Type 0 where
  pub order : a.at ≤ b.at
  pub apart : a.task ≡ b.task → a.at + period_in (task_at set a.task) ≤ b.at

-- each release is of a task of the set, and each later one may come after it
abbrev pub IsPlan : List Task → List Arrival → Type 0
IsPlan set [] = Unit {0}
IsPlan set (a ∷ more) = IsIn set a.task × Each (Apart set a) more × IsPlan set more

plan-append : (set : List Task) (xs ys : List Arrival) → IsPlan set xs → IsPlan set ys → Each (λ x. Each (Apart set x) ys) xs → IsPlan set (xs ++ ys)
plan-append set [] ys h k across = k
plan-append set (x ∷ xs) ys h k across = (h.0, Each-append (Apart set x) xs ys h.1 across.0, plan-append set xs ys h.2 k across.1)

-- the gaps of a set: each is at least its task's period, which is not 0
pub record AreFar (set : List Task) (gaps : List ℕ) : Type 0 where
  pub count : length gaps ≡ length set
  pub some : (i : ℕ) → 1 ≤ i → i ≤ length gaps → 1 ≤ slice_index gaps (i - 1)
  pub far : (i : ℕ) → 1 ≤ i → i ≤ length gaps → period_in (task_at set i) ≤ slice_index gaps (i - 1)

-- the release is of one of the tasks, at a multiple of its gap
pub record IsRelease (gaps : List ℕ) (a : Arrival) : Type 0 where
  pub first : 1 ≤ a.task
  pub last : a.task ≤ length gaps
  pub multiple : a.at % slice_index gaps (a.task - 1) ≡ 0

abbrev pub release : ℕ → ℕ → Arrival
release r i = record { task = i; at = r }

-- the releases at a boundary are at that boundary
pub at_boundary : (gaps : List ℕ) (r : ℕ) → Each (λ a. IsRelease gaps a × (a.at ≡ r)) (releases_at gaps r)
unfolding is_released
at_boundary gaps r =
    each-map (λ a. IsRelease gaps a × (a.at ≡ r)) (release r) (filter (is_released gaps r) (range_with_len 1 (length gaps)))
    (Each-filter_if (λ i. IsRelease gaps (release r i) × (r ≡ r)) (is_released gaps r) (range_with_len 1 (length gaps))
    (each-range (λ i. is_released gaps r i ≡ true → IsRelease gaps (release r i) × (r ≡ r)) 1 (length gaps)
    (λ i first last on. (record { first = first; last = omega arith; multiple = grind (arith, nat_tests, on) }, refl))))

-- the releases below a boundary are below it
pub below_boundary : (gaps : List ℕ) (r : ℕ) → Each (λ a. IsRelease gaps a × (a.at < r)) (releases_below gaps r)
below_boundary gaps zero = tt
below_boundary gaps (suc r) =
    Each-append (λ a. IsRelease gaps a × (a.at < suc r)) (releases_below gaps r) (releases_at gaps r)
    (Each-map (λ a h. (h.0, (let less : a.at < r = h.1 in omega arith))) (releases_below gaps r) (below_boundary gaps r))
    (Each-map (λ a h. (h.0, (let same : a.at ≡ r = h.1 in omega arith))) (releases_at gaps r) (at_boundary gaps r))

-- the releases at one boundary are of different tasks
plan_at : (set : List Task) (p : ℕ → Bool) (r a n : ℕ) → 1 ≤ a → a + n ≤ 1 + length set → IsPlan set (map (release r) (filter p (range_with_len a n)))
plan_at set p r a zero some most = tt
plan_at set p r a (suc n) some most =
    elim (p a) as (λ b. IsPlan set (map (release r) (cond b (a ∷ filter p (range_with_len (a + 1) n)) (filter p (range_with_len (a + 1) n))))) [
      | true ↦ ((some, omega arith), others, plan_at set p r (a + 1) n (omega arith) (omega arith))
      | false ↦ plan_at set p r (a + 1) n (omega arith) (omega arith)
    ]
  where
    others : Each (Apart set (release r a)) (map (release r) (filter p (range_with_len (a + 1) n)))
    others =
        each-map (Apart set (release r a)) (release r) (filter p (range_with_len (a + 1) n))
        (Each-filter_if (λ i. Apart set (release r a) (release r i)) p (range_with_len (a + 1) n)
        (each-range (λ i. p i ≡ true → Apart set (release r a) (release r i)) (a + 1) n
        (λ i first last on. record { order = omega arith; apart = λ (same : a ≡ i). absurd (omega arith) })))

-- a release at a boundary may come after one below it
across : (set : List Task) (gaps : List ℕ) (r : ℕ) → AreFar set gaps → (x y : Arrival) → IsRelease gaps x → x.at < r → IsRelease gaps y → y.at ≡ r → Apart set x y
across set gaps r far x y is below its on = record {
  order = omega arith;
  apart = λ same.
      let multiple : y.at % slice_index gaps (x.task - 1) ≡ 0 = rw (← same) at its.multiple in
      let some = far.some x.task is.first is.last in
      let gap = later_multiple (slice_index gaps (x.task - 1)) x.at y.at some is.multiple multiple (omega arith) in
      omega (arith, gap, far.far x.task is.first is.last);
}

-- all releases below a boundary are a plan
pub plan_below : (set : List Task) (gaps : List ℕ) (r : ℕ) → AreFar set gaps → IsPlan set (releases_below gaps r)
plan_below set gaps zero far = tt
plan_below set gaps (suc r) far =
    plan-append set (releases_below gaps r) (releases_at gaps r) (plan_below set gaps r far)
    (plan_at set (is_released gaps r) r 1 (length gaps) (omega arith) (let same : length gaps ≡ length set = far.count in omega arith))
    (Each-map (λ x h. Each-map (λ y k. across set gaps r far x y h.0 h.1 k.0 k.1) (releases_at gaps r) (at_boundary gaps r)) (releases_below gaps r) (below_boundary gaps r))
